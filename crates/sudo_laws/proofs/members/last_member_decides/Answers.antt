use Rattle.sudo_laws.proofs.DecisionLemmas.{atom_decides, last_decides, none_decides}
use Rattle.sudo_laws.proofs.members.last_member_decides.Goals as goal

pub returns-clause-last : goal.returns-clause-last
returns-clause-last c = λ kind p before after m test decision here none.
    last_decides kind p test before after m decision here none

pub returns-clause-none : goal.returns-clause-none
returns-clause-none c = λ kind p list test none. none_decides kind p test list none

pub returns-clause-atom : goal.returns-clause-atom
returns-clause-atom c = λ kind p m test alone. atom_decides kind p test m alone
