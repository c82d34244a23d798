use Rattle.std.proofs.Common.{◌≡◌, length}
use Rattle.review_compare.proofs.shared.are_same_answers.Given as goal

-- where the rests are the same, the lists are
abbrev pub invariant-loop-own : goal.invariant-loop-own
invariant-loop-own l = l.own ≡ l.left → l.answers ≡ l.others

abbrev pub decreases-loop-own : goal.decreases-loop-own
decreases-loop-own l = length l.own
