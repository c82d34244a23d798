use Rattle.std.proofs.Common.{rules, ◌<◌, ◌++◌, ◌∷◌, [], Some, length, refl, sym, ap, ◌∙◌}
use Rattle.std.proofs.lemmas.Option.{slice_get_read}
use Rattle.sudo_policy.proofs.MarkingLemmas.{inside_link, ReversesRow-link}
use Rattle.sudo_policy.proofs.cycle.turn_link.Goals as goal

pub offset_bounds-back-to : goal.offset_bounds-back-to
offset_bounds-back-to c =
    let inside : c.in-Some.to < length c.args.back.now =
    inside_link c.args.link (length c.args.back.now) c.in-Some.to c.requires.inside c.in-Some.is in
    search rules

pub bounds-back-to : goal.bounds-back-to
bounds-back-to c = inside_link c.args.link (length c.args.back.now) c.in-Some.to c.requires.inside c.in-Some.is

pub returns-in_ok-push : goal.returns-in_ok-push
returns-in_ok-push c =
    let inside = inside_link c.args.link (length c.args.back.now) c.in-Some.to c.requires.inside c.in-Some.is in
    ReversesRow-link c.args.back.now c.args.from c.in-Some.to c.args.link c.index-back-to.result c.push.new.self c.in-Some.is
    (slice_get_read c.args.back.now (length c.args.back.now) c.in-Some.to c.index-back-to.result refl inside c.index-back-to.is)
    (c.in_ok-push.ensures.ok ∙ ap (λ r. r ++ Some c.args.from ∷ []) (sym c.index-back-to.is))
