use Rattle.std.proofs.Common.{length}
use Rattle.review_compare.proofs.targets.are_apart.Given as goal

abbrev pub decreases-loop-left : goal.decreases-loop-left
decreases-loop-left l = length l.left
