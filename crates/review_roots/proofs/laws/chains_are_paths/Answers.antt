use Rattle.review_roots.proofs.ChainLemmas.{chains-are-paths}
use Rattle.review_roots.proofs.laws.chains_are_paths.Goals as goal

pub returns : goal.returns
returns g c = chains-are-paths _
