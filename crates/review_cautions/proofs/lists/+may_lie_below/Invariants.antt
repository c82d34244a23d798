use Rattle.std.proofs.Common.{length}
use Rattle.review_cautions.proofs.lists.+may_lie_below.Given as goal

abbrev pub decreases-may_lie_below : goal.decreases-may_lie_below
decreases-may_lie_below l = length l.folder.now
