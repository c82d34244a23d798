use Rattle.std.proofs.Common.{◌≡◌, ◌∷◌, length}
use Rattle.review_texts.specs.Masks.{is_rising as rises}
use Rattle.review_texts.proofs.masks.is_rising.Given as goal

abbrev pub invariant-loop-join : goal.invariant-loop-join
invariant-loop-join l = rises l.fn.joins ≡ rises (l.last ∷ l.left)

abbrev pub decreases-loop-join : goal.decreases-loop-join
decreases-loop-join l = length l.left
