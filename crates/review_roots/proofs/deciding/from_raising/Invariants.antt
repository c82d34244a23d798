use Rattle.std.proofs.Common.{◌≡◌, length}
use Rattle.review_roots.specs.Body.Deciding.{from_raising}
use Rattle.review_roots.proofs.deciding.from_raising.Given as goal

abbrev pub invariant-loop-left : goal.invariant-loop-left
invariant-loop-left l = from_raising l.least l.blocks ≡ from_raising l.least l.left

abbrev pub decreases-loop-left : goal.decreases-loop-left
decreases-loop-left l = length l.left
