use Rattle.sudo_text.proofs.Endings.{whole_run}
use Rattle.sudo_text.proofs.laws.runs_are_whole.Goals as goal

pub returns : goal.returns
returns c = whole_run
