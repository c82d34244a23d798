use Rattle.std.proofs.Common.{◌+◌, ◌⊎◌, List, ap, arith, length, subst, sym, take}
use Rattle.std.specs.List.{Contains}
use Rattle.std.proofs.lemmas.List.{take_all}
use Rattle.review_grants.proofs.ListSteps.{index-there}
use Rattle.review_compare.specs.declared.cell.Ask.{Ask}
use Rattle.review_compare.specs.declared.shared.AnsweredAsks.{AnsweredAsks}
use Rattle.review_compare.specs.Body.SharedAsks.{AreBriefly, HaveAnswered}
use Rattle.review_compare.proofs.SharedLemmas.{all-briefly, split-more, still-split}
use Rattle.review_compare.proofs.shared.split_asks.Goals as goal

pub loop-ask-preserved : goal.loop-ask-preserved
loop-ask-preserved c =
    let n = c.loop-ask.ask-index in
    let asks = c.as_slice-ask-items.result.now in
    let are = c.as_slice-ask-items.ensures.value in
    let own = c.loop-ask.own.items in
    let answered = c.loop-ask.answered.items in
    let adds = c.in_ok-split_ask.ensures in
    let before = subst (λ (xs : List Ask). (a : Ask) → Contains (take n xs) a → Contains own a ⊎ HaveAnswered answered a) (sym are)
    c.loop-ask.invariant.1 in (
      adds.are,
      subst (λ (xs : List Ask). (a : Ask) → Contains (take (n + 1) xs) a →
          Contains c.split_ask.new.own.items a ⊎ HaveAnswered c.split_ask.new.answered.items a) are
          (split-more asks own c.split_ask.new.own.items answered c.split_ask.new.answered.items n _
          c.loop-ask-test.true (index-there asks n _ c.loop-ask-test.true) before adds.kept adds.has),
    )

pub returns-clause-split : goal.returns-clause-split
returns-clause-split c =
    let p = c.args.pair.now in
    let ks = c.loop-ask.answered.items in
    let ss = c.in_ok-shared.shared.items in
    let long = ap length c.as_slice-ask-items.ensures.value in
    let brief = subst (λ (js : List AnsweredAsks). AreBriefly p js ss) c.deref.ensures.value c.in_ok-shared.ensures in
    record {
      shared = all-briefly p c.in_ok-forms.forms c.in_ok-forms.ensures ks ss c.loop-ask.invariant.0 brief;
      all = λ a there. still-split p ks ss c.loop-ask.own.items brief a (c.loop-ask.invariant.1 a
          (subst (λ (asks : List Ask). Contains asks a)
          (sym (take_all c.loop-ask.ask-index c.args.asks.items (omega (arith, long, c.loop-ask-test.false)))) there));
    }
