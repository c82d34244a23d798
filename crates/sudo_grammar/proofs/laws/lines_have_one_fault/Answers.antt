use Rattle.sudo_grammar.proofs.OneFault.{one-fault}
use Rattle.sudo_grammar.proofs.laws.lines_have_one_fault.Goals as goal

pub returns : goal.returns
returns c = λ room ts a b. one-fault room ts a b
