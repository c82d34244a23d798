use Rattle.sudo_text.proofs.PlainRuns.{plain-run}
use Rattle.sudo_text.proofs.laws.plain_runs.Goals as goal

pub returns : goal.returns
returns c = plain-run
