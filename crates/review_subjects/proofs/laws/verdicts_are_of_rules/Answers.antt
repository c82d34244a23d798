use Rattle.review_subjects.proofs.VerdictPlaces.{verdicts_of_rules}
use Rattle.review_subjects.proofs.laws.verdicts_are_of_rules.Goals as goal

pub returns : goal.returns
returns c = verdicts_of_rules
