use Rattle.std.proofs.Common.{◌-◌, length}
use Rattle.review_compare.proofs.brief.index_from.Given as goal

abbrev pub decreases-loop-at : goal.decreases-loop-at
decreases-loop-at l = length l.run - l.at
