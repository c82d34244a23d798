use Rattle.std.proofs.Common.{List, arith, subst, sym}
use Rattle.std.specs.List.{Contains}
use Rattle.std.proofs.lemmas.List.{take_all}
use Rattle.review_grants.proofs.ListSteps.{index-there}
use Rattle.review_compare.specs.declared.cell.Ask.{Ask}
use Rattle.review_compare.proofs.AskLemmas.{asks-more}
use Rattle.review_compare.proofs.ask_class.own_classes.Goals as goal

pub loop-ask-preserved : goal.loop-ask-preserved
loop-ask-preserved c =
    let n = c.loop-ask.ask-index in
    let asks = c.args.asks.now in
    let adds = c.in_ok-add_ask.ensures in (
      adds.are,
      asks-more c.args.pair.now asks n _ c.loop-ask.classes.items c.add_ask.new.classes.items c.loop-ask-test.true
          (index-there asks n _ c.loop-ask-test.true) c.loop-ask.invariant.1 adds.kept adds.has,
    )

pub returns : goal.returns
returns c = record {
  are = c.loop-ask.invariant.0;
  all = λ a there. c.loop-ask.invariant.1 a
      (subst (λ (asks : List Ask). Contains asks a)
      (sym (take_all c.loop-ask.ask-index c.args.asks.now (omega (arith, c.loop-ask-test.false)))) there);
}
