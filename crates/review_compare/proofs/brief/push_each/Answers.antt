use Rattle.std.proofs.Common.{List, arith, subst}
use Rattle.std.proofs.lemmas.List.{take_all}
use Rattle.review_grants.proofs.ListSteps.{index-there}
use Rattle.review_compare.specs.declared.cell.Ask.{Ask}
use Rattle.review_compare.specs.Body.AskClasses.{AddsAsks}
use Rattle.review_compare.proofs.BriefLemmas.{asks-added, asks-none}
use Rattle.review_compare.proofs.brief.push_each.Goals as goal

pub loop-ask-init : goal.loop-ask-init
loop-ask-init c = asks-none c.args.pair.now c.args.brief.now.items

pub loop-ask-preserved : goal.loop-ask-preserved
loop-ask-preserved c =
    asks-added c.args.pair.now c.args.brief.now.items c.loop-ask.brief.items c.push_asked.new.asked.items c.args.asks.now
    c.loop-ask.ask-index _ c.loop-ask-test.true (index-there c.args.asks.now c.loop-ask.ask-index _ c.loop-ask-test.true)
    c.loop-ask.invariant c.in_ok-push_asked.ensures

pub returns : goal.returns
returns c =
    subst (λ (xs : List Ask). AddsAsks c.args.pair.now c.args.brief.now.items xs c.loop-ask.brief.items)
    (take_all c.loop-ask.ask-index c.args.asks.now (omega (arith, c.loop-ask-test.false))) c.loop-ask.invariant
