use Rattle.std.proofs.Common.{[], ◌∷◌, ◌++◌, ◌+◌, List, arith, refl, subst, sym, take}
use Rattle.std.proofs.lemmas.List.{take_all}
use Rattle.review_grants.proofs.ListSteps.{take-more}
use Rattle.review_compare.specs.declared.cell.Ask.{Ask}
use Rattle.review_compare.specs.declared.shared.AnsweredAsks.{AnsweredAsks}
use Rattle.review_compare.specs.declared.shared.SharedAsks.{SharedAsks}
use Rattle.review_compare.specs.Body.AskClasses.{AddsAsks}
use Rattle.review_compare.specs.Body.SharedAsks.{AreBriefly}
use Rattle.review_compare.proofs.SharedLemmas.{briefly-more}
use Rattle.review_compare.proofs.shared.shared_asks.Goals as goal

pub loop-each-preserved : goal.loop-each-preserved
loop-each-preserved c =
    let p = c.args.pair.now in
    let n = c.loop-each.each-index in
    let ks = c.args.answered.now in
    let k = c.each-item.result in
    let s : SharedAsks = record { first = k.first; asked = c.in_ok-brief_asks.field-0 } in
    subst (λ (ss : List SharedAsks). AreBriefly p (take (n + 1) ks) ss) (sym c.in_ok-push.ensures.items)
    (subst (λ (js : List AnsweredAsks). AreBriefly p js (c.loop-each.shared.items ++ s ∷ []))
    (sym (take-more ks n k c.loop-each-test.true c.each-item.is))
    (briefly-more p (take n ks) c.loop-each.shared.items k s c.loop-each.invariant
    (record {
      first = refl;
      asked = subst (λ (xs : List Ask). AddsAsks p [] xs s.asked.items) c.deref.ensures.value c.in_ok-brief_asks.ensures;
    })))

pub returns : goal.returns
returns c =
    subst (λ (ks : List AnsweredAsks). AreBriefly c.args.pair.now ks c.loop-each.shared.items)
    (take_all c.loop-each.each-index c.args.answered.now (omega (arith, c.loop-each-test.false))) c.loop-each.invariant
