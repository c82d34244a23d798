use Rattle.sudo_text.proofs.Endings.{runs_end_at_quotes}
use Rattle.sudo_text.proofs.laws.quotes_end_runs.Goals as goal

pub returns : goal.returns
returns c = runs_end_at_quotes
