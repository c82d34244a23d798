-- Comparisons that rows behind the change settle; only proofs of bodies need these definitions.
use Rattle.std.specs.Prelude.{◌≡◌, ℕ, true, List, [], ◌∷◌, get_or, map, Option, Some, None}
use Rattle.review_compare.specs.declared.block.Block.{Block}
use Rattle.review_compare.specs.declared.near.Parts.{Parts}
use Rattle.review_compare.specs.Cells.{Decider, lined_of, ruling_by}
use Rattle.review_compare.specs.Body.Chosen.{chosen, deciders_at}
use Rattle.review_compare.specs.Body.Shown.{is_covered_by}

-- the rows of the blocks at two indices answer the same, one by one
abbrev pub AnswerAlike : List Block → List Block → ℕ → ℕ → Type 0
AnswerAlike bs cs i j = map ruling_by (deciders_at bs i) ≡ map ruling_by (deciders_at cs j)

-- for blocks of the old policy, by their indices, such blocks of the new one, where one is known
abbrev pub AreTwins : Parts → List (Option ℕ) → Type 0
AreTwins p twins = (i j : ℕ) → get_or twins i None ≡ Some j → AnswerAlike p.old.items p.new.items i j

-- the rows of blocks of both policies answer the same, one by one
abbrev pub ChosenAlike : Parts → List ℕ → List ℕ → Type 0
ChosenAlike p is js = map ruling_by (chosen p.old.items is) ≡ map ruling_by (chosen p.new.items js)

-- for each of the rows one of the others applies wherever it does
abbrev pub AreCovered : List Decider → List Decider → Type 0
AreCovered others [] = Unit {0}
AreCovered others (d ∷ ds) = (is_covered_by others (lined_of d) ≡ true) × AreCovered others ds
