-- Comparisons of blocks that are kept; only proofs of bodies need these definitions.
use Rattle.std.specs.Prelude.{◌≡◌, ℕ, List, All}
use Rattle.review_compare.specs.declared.compared.Compared.{Compared}
use Rattle.review_compare.specs.declared.comparison.Comparison.{Comparison}
use Rattle.review_compare.specs.declared.comparison.Comparisons.{Comparisons}
use Rattle.review_compare.specs.declared.pair.Pair.{Pair}
use Rattle.review_compare.specs.Cells.{Decider}
use Rattle.review_compare.specs.Witnesses.{IsCompared}
use Rattle.review_compare.specs.Body.Chosen.{chosen}

-- the comparison is of these blocks
abbrev pub IsOf : Comparison → List ℕ → List ℕ → Type 0
IsOf k old new = (k.old.items ≡ old) × (k.new.items ≡ new)

-- the outcome is right for the near rows of the blocks
abbrev pub IsRight : Pair → Comparison → Type 0
IsRight p k = IsCompared (chosen p.parts.old.items k.old.items) (chosen p.parts.new.items k.new.items) k.found

-- each outcome is
abbrev pub AreRight : Pair → Comparisons → Type 0
AreRight p ks = All (IsRight p) ks.all.items

-- the copy of an outcome is right for the same rows
abbrev pub IsCopy : Compared → Compared → Type 0
IsCopy f g = (ds es : List Decider) → IsCompared ds es f → IsCompared ds es g
