use Rattle.std.proofs.Common.{List, subst}
use Rattle.sudo_base.proofs.Options.{on_ok}
use Rattle.review_compare.specs.declared.ask_class.AskedWith.{AskedWith}
use Rattle.review_compare.specs.Body.AskClasses.{AreAsked}
use Rattle.review_compare.specs.Body.Merged.{AddsFound}
use Rattle.review_compare.specs.Body.Progress.{asking}
use Rattle.review_compare.proofs.SpotLemmas.{class-found, class-same}
use Rattle.review_compare.proofs.spot.add_class.Goals as goal

pub returns-in-Same : goal.returns-in-Same
returns-in-Same c =
    class-same c.args.pair.now c.args.user c.args.hosts.now
    (AreAsked (asking c.args.pair.now) c.args.class.now.asked.items) c.args.rows.now.items
    c.args.found.now c.requires c.in-Same.is

pub returns-in_default : goal.returns-in_default
returns-in_default c =
    let p = c.args.pair.now in
    let ks = c.args.class.now.asked.items in
    on_ok c.add_each.result
    (λ adds.
    class-found p c.args.user c.args.hosts.now (AreAsked (asking p) ks) c.args.rows.now.items c.add_each.new.rows.items
    c.args.found.now c.requires
    (subst (λ (ws : List AskedWith). AddsFound (asking p) c.args.rows.now.items c.args.user c.args.hosts.now
    (AreAsked (asking p) ws) c.args.found.now
    c.add_each.new.rows.items) c.deref.ensures.value (adds (asking p))))
    c.add_each.ensures
