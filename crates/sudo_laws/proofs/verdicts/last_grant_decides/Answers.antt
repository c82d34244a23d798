use Rattle.std.proofs.Common.{◌∙◌}
use Rattle.sudo_laws.proofs.VerdictLemmas.{verdict_of-known, verdict_on-none, verdict_on-there}
use Rattle.sudo_laws.proofs.verdicts.last_grant_decides.Goals as goal

pub returns-clause-last : goal.returns-clause-last
returns-clause-last c = λ p d r q before after g known is here none.
    verdict_of-known p d r q known ∙ verdict_on-there p q before after g is here none

pub returns-clause-none : goal.returns-clause-none
returns-clause-none c = λ p d r q known none. verdict_of-known p d r q known ∙ verdict_on-none p q none
