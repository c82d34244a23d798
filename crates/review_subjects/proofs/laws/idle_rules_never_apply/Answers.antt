use Rattle.review_subjects.proofs.IdleLaw.{idle_rules}
use Rattle.review_subjects.proofs.laws.idle_rules_never_apply.Goals as goal

pub returns : goal.returns
returns c = idle_rules
