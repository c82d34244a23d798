use Rattle.std.proofs.Common.{◌≡◌, ◌≤◌, ◌+◌, drop, length}
use Rattle.review_compare.specs.Body.Chosen.{chosen}
use Rattle.review_compare.specs.Body.Reaches.{reach}
use Rattle.review_compare.specs.Body.RowReaches.{lined_by}
use Rattle.review_compare.proofs.row_reaches.RowReaches.among.Given as goal

-- none of those passed applies wherever the row does
abbrev pub invariant-loop-end : goal.invariant-loop-end
invariant-loop-end l =
    (l.end ≤ length l.indices)
    × (l.left + length (chosen l.blocks (drop l.end l.indices)) ≡ length (chosen l.blocks l.indices))
    × (reach (chosen l.blocks (drop l.end l.indices)) (lined_by l.self) ≡ 0)

abbrev pub decreases-loop-end : goal.decreases-loop-end
decreases-loop-end l = l.end
