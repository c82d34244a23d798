use Rattle.sudo_match.proofs.CutLemmas.{bracket_is_part}
use Rattle.sudo_match.proofs.laws.brackets_are_cut.Goals as goal

pub returns : goal.returns
returns c = λ start complement items cs rest. bracket_is_part start complement items cs rest
