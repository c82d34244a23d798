use Rattle.std.proofs.Common.{◌∙◌, List, Some, ap, option_copied, sym}
use Rattle.std.specs.Prelude.{slice_get}
use Rattle.sudo_match.specs.declared.people.Person.{Person}
use Rattle.review_roots.specs.Body.Kept.{named_for, unnamed_for}
use Rattle.review_roots.proofs.KeptLemmas.{kept-more}
use Rattle.review_roots.proofs.LoopLemmas.{there}
use Rattle.review_roots.proofs.kept.kept_by.Goals as goal

pub loop-user-preserved : goal.loop-user-preserved
loop-user-preserved c =
    let d = c.args.directory.now in
    let user = c.loop-user.user in
    let u = c.index-people-user.result in
    let people = c.people-people.result.now in
    let name = option_copied c.args.name in
    kept-more d c.args.groups.now (named_for name c.args.own.now c.args.others.now) (unnamed_for name c.args.own.now c.args.others.now)
    user u c.loop-user.states.items c.push_split.new.states.items
    (ap (λ (ps : List Person). slice_get ps user) (sym c.people-people.ensures)
    ∙ there people user u c.loop-user-test.true ∙ ap Some (sym c.index-people-user.is))
    c.loop-user.invariant c.in_ok-push_split.ensures
