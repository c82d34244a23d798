use Rattle.sudo_grammar.proofs.OneFault.{read-within}
use Rattle.sudo_grammar.proofs.laws.what_is_read_is_written.Goals as goal

pub returns : goal.returns
returns c = λ room e ts. read-within room ts e
