use Rattle.sudo_laws.proofs.TokenOutcomes.{tokens_or_fault}
use Rattle.sudo_laws.proofs.existence.lines_have_tokens_or_a_fault.Goals as goal

pub returns : goal.returns
returns c = tokens_or_fault
