use Rattle.std.proofs.Common.{ℕ, ◌<◌, List}
use Rattle.review_texts.specs.Masks.{StandsAt}
use Rattle.review_texts.proofs.masks.first_stand.Given as goal

abbrev pub invariant-loop-at : goal.invariant-loop-at
invariant-loop-at l = (start end : ℕ) (put : List ℕ) → start < l.at → StandsAt l.fn.readable l.line l.form start end put → ⊥
