use Rattle.review_texts.proofs.NoPath.{nothing_fits}
use Rattle.review_texts.proofs.laws.no_command_is_listed.Goals as goal

pub returns : goal.returns
returns c = λ command arguments. nothing_fits command arguments
