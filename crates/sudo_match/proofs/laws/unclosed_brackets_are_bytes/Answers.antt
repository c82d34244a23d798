use Rattle.sudo_match.proofs.CutLemmas.{Unclosed, unclosed_is_part}
use Rattle.sudo_match.proofs.laws.unclosed_brackets_are_bytes.Goals as goal

pub returns : goal.returns
unfolding Unclosed
returns c = λ start cs. unclosed_is_part start cs
