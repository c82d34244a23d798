use Rattle.sudo_text.proofs.OneFault.{one_fault}
use Rattle.sudo_text.proofs.laws.one_leftmost_fault.Goals as goal

pub returns : goal.returns
returns c = one_fault
