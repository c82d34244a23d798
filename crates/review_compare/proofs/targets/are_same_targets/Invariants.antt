use Rattle.std.proofs.Common.{◌≡◌, length}
use Rattle.review_compare.proofs.targets.are_same_targets.Given as goal

-- where the rests are the same, the lists are
abbrev pub invariant-loop-own : goal.invariant-loop-own
invariant-loop-own l = l.own ≡ l.left → l.targets ≡ l.others

abbrev pub decreases-loop-own : goal.decreases-loop-own
decreases-loop-own l = length l.own
