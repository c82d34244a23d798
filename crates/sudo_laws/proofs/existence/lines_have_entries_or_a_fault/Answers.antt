use Rattle.sudo_laws.proofs.EntryOutcomes.{entries_or_fault}
use Rattle.sudo_laws.proofs.existence.lines_have_entries_or_a_fault.Goals as goal

pub returns : goal.returns
returns c = entries_or_fault
