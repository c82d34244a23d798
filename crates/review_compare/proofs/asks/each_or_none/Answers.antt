use Rattle.std.proofs.Common.{◌++◌, ◌∷◌, ◌∙◌, [], List, Option, ℕ, ap, None, Some, sym}
use Rattle.review_compare.proofs.DifferenceLemmas.{numbers-more}
use Rattle.review_compare.proofs.asks.each_or_none.Goals as goal

pub loop-number-preserved : goal.loop-number-preserved
loop-number-preserved c =
    c.in_ok-push-2.ensures.items
    ∙ ap (λ (xs : List (Option ℕ)). xs ++ Some c.loop-number.number ∷ []) c.loop-number.invariant
    ∙ ap (λ (xs : List (Option ℕ)). None ∷ xs) (sym (numbers-more c.loop-number.number))
