use Rattle.sudo_text.proofs.Beginnings.{runs_begin}
use Rattle.sudo_text.proofs.laws.what_begins_a_run.Goals as goal

pub returns : goal.returns
returns c = runs_begin
