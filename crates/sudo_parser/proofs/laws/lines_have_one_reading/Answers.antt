use Rattle.std.proofs.Common.{[]}
use Rattle.sudo_parser.proofs.OneReading.{one_entries, one_first_fault, entries-no-fault}
use Rattle.sudo_parser.proofs.laws.lines_have_one_reading.Goals as goal

pub returns-clause-entries : goal.returns-clause-entries
returns-clause-entries c = λ lines a b. one_entries [] lines a b

pub returns-clause-fault : goal.returns-clause-fault
returns-clause-fault c = λ lines a b. one_first_fault [] lines a b

pub returns-clause-apart : goal.returns-clause-apart
returns-clause-apart c = λ lines entries fault. entries-no-fault [] lines entries fault
