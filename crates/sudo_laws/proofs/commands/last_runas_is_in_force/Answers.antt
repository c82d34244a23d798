use Rattle.sudo_laws.proofs.CommandLemmas.{runas_named, runas_none}
use Rattle.sudo_laws.proofs.commands.last_runas_is_in_force.Goals as goal

pub returns-clause-named : goal.returns-clause-named
returns-clause-named c = runas_named

pub returns-clause-none : goal.returns-clause-none
returns-clause-none c = runas_none
