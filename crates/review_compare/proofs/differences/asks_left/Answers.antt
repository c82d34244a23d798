use Rattle.std.proofs.Common.{List, arith, subst}
use Rattle.std.proofs.lemmas.List.{take_all}
use Rattle.review_grants.proofs.ListSteps.{index-there}
use Rattle.review_compare.specs.declared.cell.Ask.{Ask}
use Rattle.review_compare.specs.Body.Progress.{AreLeft, SayUserSame}
use Rattle.review_compare.proofs.DifferenceLemmas.{left-more}
use Rattle.review_compare.proofs.differences.asks_left.Goals as goal

pub loop-ask-preserved : goal.loop-ask-preserved
loop-ask-preserved c =
    let k = c.loop-ask.ask-index in
    left-more (SayUserSame c.args.pair.now c.args.person.now) c.args.asks.now k _ c.may_differ_at.result c.loop-ask.left.items
    c.push_if.new.asks.items c.loop-ask-test.true (index-there c.args.asks.now k _ c.loop-ask-test.true) c.loop-ask.invariant
    c.in_ok-push_if.ensures c.may_differ_at.ensures

pub returns : goal.returns
returns c =
    subst (λ (asks : List Ask). AreLeft c.args.pair.now c.args.person.now asks c.loop-ask.left.items)
    (take_all c.loop-ask.ask-index c.args.asks.now (omega (arith, c.loop-ask-test.false))) c.loop-ask.invariant
