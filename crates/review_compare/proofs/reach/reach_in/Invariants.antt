use Rattle.std.proofs.Common.{◌≡◌, ◌≤◌, drop, length}
use Rattle.review_compare.specs.Cells.{lined_of}
use Rattle.review_compare.specs.Body.Reaches.{reach}
use Rattle.review_compare.specs.Body.Shown.{all_shown, shown}
use Rattle.review_compare.proofs.reach.reach_in.Given as goal

-- none of those passed covers it
abbrev pub invariant-loop-end : goal.invariant-loop-end
invariant-loop-end l =
    (l.end ≤ length l.rows) × (reach (all_shown (drop l.end l.rows)) (lined_of (shown l.other)) ≡ 0)

abbrev pub decreases-loop-end : goal.decreases-loop-end
decreases-loop-end l = l.end
