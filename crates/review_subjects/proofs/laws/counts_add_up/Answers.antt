use Rattle.review_subjects.proofs.CountLaw.{counts_add_up}
use Rattle.review_subjects.proofs.laws.counts_add_up.Goals as goal

pub returns : goal.returns
returns c = counts_add_up
