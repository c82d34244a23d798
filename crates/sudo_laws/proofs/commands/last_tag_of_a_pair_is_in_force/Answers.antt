use Rattle.sudo_laws.proofs.CommandLemmas.{tag_named, tag_none}
use Rattle.sudo_laws.proofs.commands.last_tag_of_a_pair_is_in_force.Goals as goal

pub returns-clause-named : goal.returns-clause-named
returns-clause-named c = tag_named

pub returns-clause-none : goal.returns-clause-none
returns-clause-none c = tag_none
