use Rattle.sudo_text.proofs.ArgumentBlanks.{blanks_spaced}
use Rattle.sudo_text.proofs.laws.blanks_of_arguments.Goals as goal

pub returns : goal.returns
returns c = blanks_spaced
