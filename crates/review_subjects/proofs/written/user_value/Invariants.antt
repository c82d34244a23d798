use Rattle.std.proofs.Common.{◌≡◌, length}
use Rattle.review_subjects.specs.Body.Written.{user_value}
use Rattle.review_subjects.proofs.written.user_value.Given as goal

-- the atoms passed do not match
abbrev pub invariant-loop-signed : goal.invariant-loop-signed
invariant-loop-signed l = user_value l.atoms l.user ≡ user_value l.left l.user

abbrev pub decreases-loop-signed : goal.decreases-loop-signed
decreases-loop-signed l = length l.left
