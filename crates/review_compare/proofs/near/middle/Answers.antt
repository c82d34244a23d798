use Rattle.std.proofs.Common.{◌≡◌, ◌∙◌, ◌++◌, ◌∷◌, ◌+◌, ◌-◌, [], ap, arith, sym, suc, ℕ, List}
use Rattle.std.specs.List.{range_with_len}
use Rattle.review_grants.proofs.ListSteps.{range-more}
use Rattle.review_compare.proofs.near.middle.Goals as goal

pub loop-index-preserved : goal.loop-index-preserved
loop-index-preserved c =
    let front = c.args.common.front in
    let index = c.loop-index.index in
    let n = index - front in
    let at : index ≡ front + (index - front) = omega (arith, c.loop-index.invariant.1) in
    let more : suc (index - front) ≡ (index + 1) - front = omega (arith, c.loop-index.invariant.1) in (
      c.in_ok-push.ensures.items
          ∙ ap (λ (is : List ℕ). is ++ index ∷ []) c.loop-index.invariant.0
          ∙ ap (λ (i : ℕ). range_with_len front n ++ i ∷ []) at
          ∙ sym (range-more front n)
          ∙ ap (range_with_len front) more,
      omega (arith, c.loop-index.invariant.1),
      omega (arith, c.loop-index.invariant.1, c.loop-index-test.true),
    )

pub returns : goal.returns
returns c =
    c.loop-index.invariant.0
    ∙ ap (range_with_len c.args.common.front)
    (omega (arith, c.loop-index.invariant.1, c.loop-index.invariant.2, c.loop-index-test.false, c.saturating_sub-index-end.ensures))
