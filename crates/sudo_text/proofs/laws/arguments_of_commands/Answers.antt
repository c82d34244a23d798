use Rattle.sudo_text.proofs.ArgumentBlanks.{command_spaced}
use Rattle.sudo_text.proofs.laws.arguments_of_commands.Goals as goal

pub returns : goal.returns
returns c = command_spaced
