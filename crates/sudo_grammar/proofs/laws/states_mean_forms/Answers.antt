use Rattle.sudo_grammar.proofs.Steps.{state-left, state-whole}
use Rattle.sudo_grammar.proofs.laws.states_mean_forms.Goals as goal

pub returns-clause-completes : goal.returns-clause-completes
returns-clause-completes c = λ room front state e ts. state-left room front state e ts

pub returns-clause-is_written : goal.returns-clause-is_written
returns-clause-is_written c = λ room front state e ts. state-whole room front state e ts
