use Rattle.std.proofs.Common.{◌≤◌, length}
use Rattle.review_compare.proofs.row_reaches.RowReaches.is_covered_in.Given as goal

abbrev pub invariant-loop-end : goal.invariant-loop-end
invariant-loop-end l = l.end ≤ length l.indices

abbrev pub decreases-loop-end : goal.decreases-loop-end
decreases-loop-end l = l.end
