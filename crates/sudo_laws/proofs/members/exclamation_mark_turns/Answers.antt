use Rattle.sudo_laws.proofs.DecisionLemmas.{mark_turns}
use Rattle.sudo_laws.proofs.members.exclamation_mark_turns.Goals as goal

pub returns : goal.returns
returns c = λ kind p m marked test same more. mark_turns kind p m marked same more test
