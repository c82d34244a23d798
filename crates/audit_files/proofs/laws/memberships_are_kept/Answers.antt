use Rattle.audit_files.proofs.MembershipRows.{records-are-kept}
use Rattle.audit_files.proofs.laws.memberships_are_kept.Goals as goal

pub returns : goal.returns
returns c = λ records faultless. records-are-kept records faultless
