use Rattle.review_compare.proofs.CoveringLemmas.{commands_agree}
use Rattle.review_compare.proofs.laws.commands_agree.Goals as goal

pub returns : goal.returns
returns g c = commands_agree _
