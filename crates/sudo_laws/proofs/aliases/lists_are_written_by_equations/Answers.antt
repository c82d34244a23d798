use Rattle.sudo_laws.proofs.AliasLemmas.{equations_hold, no_other}
use Rattle.sudo_laws.proofs.aliases.lists_are_written_by_equations.Goals as goal

pub returns-clause-equations : goal.returns-clause-equations
returns-clause-equations c = equations_hold c.args.checked.now c.policy-policy.ensures.sound

pub returns-clause-alone : goal.returns-clause-alone
returns-clause-alone c = λ write is l among. no_other c.args.checked.now write is c.policy-policy.ensures.sound l among
