use Rattle.sudo_laws.proofs.ReplacedOnce.{one_replacement}
use Rattle.sudo_laws.proofs.ReplacedLemmas.{load_replaced}
use Rattle.sudo_laws.proofs.includes.include_lines_are_replaced.Goals as goal

pub returns-clause-replaced : goal.returns-clause-replaced
returns-clause-replaced c = load_replaced

pub returns-clause-alone : goal.returns-clause-alone
returns-clause-alone c = one_replacement
