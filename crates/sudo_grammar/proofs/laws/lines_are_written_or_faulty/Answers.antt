use Rattle.sudo_grammar.proofs.OneFault.{faulty_or_written, faulty_unwritten}
use Rattle.sudo_grammar.proofs.laws.lines_are_written_or_faulty.Goals as goal

pub returns-clause-some : goal.returns-clause-some
returns-clause-some c = λ room ts. faulty_or_written room ts

pub returns-clause-one : goal.returns-clause-one
returns-clause-one c = λ room ts e stop w f. faulty_unwritten room ts stop e f w
