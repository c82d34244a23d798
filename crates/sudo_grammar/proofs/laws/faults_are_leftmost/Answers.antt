use Rattle.sudo_grammar.proofs.OneFault.{leftmost, fault_read}
use Rattle.sudo_grammar.proofs.laws.faults_are_leftmost.Goals as goal

pub returns-clause-is_fault : goal.returns-clause-is_fault
returns-clause-is_fault c = λ room ts stop. leftmost room ts stop

pub returns-clause-stops : goal.returns-clause-stops
returns-clause-stops c = λ room ts stop. fault_read room ts stop
