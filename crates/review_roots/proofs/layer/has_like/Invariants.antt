use Rattle.std.proofs.Common.{◌≤◌, length}
use Rattle.review_roots.proofs.layer.has_like.Given as goal

abbrev pub invariant-loop-at : goal.invariant-loop-at
invariant-loop-at l = l.at ≤ length l.aims

abbrev pub decreases-loop-at : goal.decreases-loop-at
decreases-loop-at l = l.at
