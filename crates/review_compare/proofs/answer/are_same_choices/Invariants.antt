use Rattle.std.proofs.Common.{◌≡◌, length}
use Rattle.review_compare.specs.Compared.{same_choices}
use Rattle.review_compare.proofs.answer.are_same_choices.Given as goal

-- what was passed is the same
abbrev pub invariant-loop-choice : goal.invariant-loop-choice
invariant-loop-choice l = same_choices l.first l.second ≡ same_choices l.own l.left

abbrev pub decreases-loop-choice : goal.decreases-loop-choice
decreases-loop-choice l = length l.own
