use Rattle.std.proofs.Common.{◌≡◌, length, true, false}
use Rattle.review_cautions.specs.PhysicalLines.{has_other_comment}
use Rattle.review_cautions.proofs.comments.first_comment_is_other.Given as goal

abbrev pub invariant-loop-rest : goal.invariant-loop-rest
invariant-loop-rest l =
    has_other_comment l.escaped l.quoted l.admitted l.rest ≡ has_other_comment false false true l.line

abbrev pub decreases-loop-rest : goal.decreases-loop-rest
decreases-loop-rest l = length l.rest
