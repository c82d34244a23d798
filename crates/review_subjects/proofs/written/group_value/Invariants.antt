use Rattle.std.proofs.Common.{◌≡◌, length}
use Rattle.review_subjects.specs.Body.Written.{group_value}
use Rattle.review_subjects.proofs.written.group_value.Given as goal

-- the atoms passed do not match
abbrev pub invariant-loop-signed : goal.invariant-loop-signed
invariant-loop-signed l = group_value l.atoms l.group ≡ group_value l.left l.group

abbrev pub decreases-loop-signed : goal.decreases-loop-signed
decreases-loop-signed l = length l.left
