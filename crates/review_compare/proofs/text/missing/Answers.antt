use Rattle.std.proofs.Common.{◌≡◌, ◌∙◌, ◌++◌, ◌∷◌, [], List, ℕ, ap, arith, cond, sym}
use Rattle.std.specs.Prelude.{not}
use Rattle.review_compare.specs.Table.{missing}
use Rattle.review_compare.specs.Body.Merged.{is_among}
use Rattle.review_compare.proofs.TextLemmas.{missing-more}
use Rattle.review_compare.proofs.text.missing.Goals as goal

pub loop-index-preserved : goal.loop-index-preserved
loop-index-preserved c =
    let n = c.loop-index.index in
    let numbers = c.args.numbers.now in
    let marked : c.index.result.now ≡ is_among numbers n =
    c.index.ensures ∙ (c.in_ok-marks.ensures).each n _ (omega (arith, c.loop-index-test.true, (c.in_ok-marks.ensures).long)) in (
      c.in_ok-push_unmarked.ensures
          ∙ ap (λ (xs : List ℕ). xs ++ cond (not c.index.result.now) (n ∷ []) []) c.loop-index.invariant.0
          ∙ ap (λ b. missing n numbers ++ cond (not b) (n ∷ []) []) marked
          ∙ sym (missing-more numbers n),
      omega (arith, c.loop-index-test.true),
    )
