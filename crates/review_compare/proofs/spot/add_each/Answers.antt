use Rattle.std.proofs.Common.{arith, List, subst}
use Rattle.std.proofs.lemmas.List.{take_all}
use Rattle.review_compare.specs.declared.ask_class.AskedWith.{AskedWith}
use Rattle.review_compare.specs.Body.AskClasses.{AreAsked}
use Rattle.review_compare.specs.Body.Merged.{AddsFound}
use Rattle.review_compare.proofs.SpotLemmas.{adds-more, adds-none}
use Rattle.review_compare.proofs.spot.add_each.Goals as goal

pub loop-targets-init : goal.loop-targets-init
loop-targets-init c = λ asks. adds-none asks c.args.rows.now.items c.args.user c.args.hosts.now c.args.found.now

pub loop-targets-preserved : goal.loop-targets-preserved
loop-targets-preserved c = λ asks.
    adds-more asks c.args.rows.now.items c.loop-targets.rows.items c.add_found.new.rows.items c.args.user c.args.hosts.now
    c.args.asked.now c.loop-targets.targets-index c.targets-item.result c.args.found.now c.loop-targets-test.true c.targets-item.is
    (c.loop-targets.invariant asks) (c.in_ok-add_found.ensures asks)

pub returns : goal.returns
returns c = λ asks.
    subst (λ (ws : List AskedWith). AddsFound asks c.args.rows.now.items c.args.user c.args.hosts.now (AreAsked asks ws)
    c.args.found.now c.loop-targets.rows.items)
    (take_all c.loop-targets.targets-index c.args.asked.now (omega (arith, c.loop-targets-test.false))) (c.loop-targets.invariant asks)
