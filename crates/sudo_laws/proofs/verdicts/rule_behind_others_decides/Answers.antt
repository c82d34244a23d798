use Rattle.std.proofs.Common.{◌∙◌}
use Rattle.sudo_laws.proofs.VerdictLemmas.{rule_there, rule_unasked, verdict_of-known}
use Rattle.sudo_laws.proofs.verdicts.rule_behind_others_decides.Goals as goal

pub returns-clause-there : goal.returns-clause-there
returns-clause-there c = λ p longer rule adds d r q known before after g is here none.
    verdict_of-known longer d r q known ∙ rule_there p rule longer adds q before after g is here none

pub returns-clause-elsewhere : goal.returns-clause-elsewhere
returns-clause-elsewhere c = λ p longer rule adds d r none. rule_unasked p rule longer adds d r none
