use Rattle.std.proofs.Common.{◌≡◌, length}
use Rattle.review_compare.specs.Simply.{same_chars}
use Rattle.review_compare.proofs.characters.same_chars.Given as goal

-- what was passed is the same
abbrev pub invariant-loop-ch : goal.invariant-loop-ch
invariant-loop-ch l = same_chars l.first l.second ≡ same_chars l.own l.left

abbrev pub decreases-loop-ch : goal.decreases-loop-ch
decreases-loop-ch l = length l.own
