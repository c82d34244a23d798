use Rattle.std.proofs.Common.{◌≡◌, length, false}
use Rattle.review_cautions.specs.Body.Signs.{has_late_close}
use Rattle.review_cautions.proofs.groups.has_late_close.Given as goal

abbrev pub invariant-loop-at : goal.invariant-loop-at
invariant-loop-at l = has_late_close false l.rest ≡ has_late_close false l.line

abbrev pub decreases-loop-at : goal.decreases-loop-at
decreases-loop-at l = length l.rest
