use Rattle.sudo_grammar.proofs.OneFault.{stands}
use Rattle.sudo_grammar.proofs.laws.expected_could_stand.Goals as goal

pub returns : goal.returns
returns c = λ room ts stop fault x. stands room ts stop fault x
