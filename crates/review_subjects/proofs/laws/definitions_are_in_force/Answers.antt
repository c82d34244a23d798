use Rattle.review_subjects.proofs.InForce.{all_in_force}
use Rattle.review_subjects.proofs.laws.definitions_are_in_force.Goals as goal

pub returns : goal.returns
returns c = all_in_force
