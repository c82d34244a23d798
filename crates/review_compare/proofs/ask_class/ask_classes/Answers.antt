use Rattle.std.proofs.Common.{List, arith, subst, sym}
use Rattle.std.proofs.lemmas.List.{take_all}
use Rattle.review_compare.specs.declared.shared.SharedAsks.{SharedAsks}
use Rattle.review_compare.specs.Body.AskClasses.{AreAsked, HaveAsk}
use Rattle.review_compare.specs.Body.SharedAsks.{HaveShared}
use Rattle.review_compare.specs.Body.Progress.{asking}
use Rattle.review_compare.proofs.AskLemmas.{more-in}
use Rattle.review_compare.proofs.ask_class.ask_classes.Goals as goal

pub loop-each-preserved : goal.loop-each-preserved
loop-each-preserved c =
    let n = c.loop-each.each-index in
    let ss = c.args.shared.now in
    let adds = c.in_ok-add_shared.ensures in (
      adds.are,
      λ a there. adds.kept a (c.loop-each.invariant.1 a there),
      more-in (λ s b. AreAsked (asking c.args.pair.now) s.asked.items b) ss n c.each-item.result
          (HaveAsk (asking c.args.pair.now) c.add_shared.new.classes.items) c.loop-each-test.true c.each-item.is
          (λ a e. adds.kept a (c.loop-each.invariant.2 a e)) adds.has,
    )

pub returns : goal.returns
returns c = record {
  are = c.loop-each.invariant.0;
  own = c.loop-each.invariant.1;
  shared = λ a there. c.loop-each.invariant.2 a
      (subst (λ (ss : List SharedAsks). HaveShared (asking c.args.pair.now) ss a)
      (sym (take_all c.loop-each.each-index c.args.shared.now (omega (arith, c.loop-each-test.false)))) there);
}
