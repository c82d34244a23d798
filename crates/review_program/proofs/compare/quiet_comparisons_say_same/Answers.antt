use Rattle.review_program.proofs.QuietSteps.{quiet-says-same}
use Rattle.review_program.proofs.compare.quiet_comparisons_say_same.Goals as goal

pub returns : goal.returns
returns c = quiet-says-same
