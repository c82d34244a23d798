use Rattle.std.proofs.Common.{◌≡◌, length}
use Rattle.review_compare.specs.Simply.{same_commands}
use Rattle.review_compare.proofs.shape.same_commands.Given as goal

-- what was passed is the same
abbrev pub invariant-loop-own : goal.invariant-loop-own
invariant-loop-own l = same_commands l.atoms l.others ≡ same_commands l.own l.left

abbrev pub decreases-loop-own : goal.decreases-loop-own
decreases-loop-own l = length l.own
