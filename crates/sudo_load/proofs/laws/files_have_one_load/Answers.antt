use Rattle.sudo_load.proofs.OneLoad.{one_load}
use Rattle.sudo_load.proofs.laws.files_have_one_load.Goals as goal

pub returns : goal.returns
returns c = λ path text supplies a b. one_load path text supplies a b
