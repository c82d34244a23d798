use Rattle.review_roots.proofs.LevelLemmas.{none_allows}
use Rattle.review_roots.proofs.laws.none_allows_none.Goals as goal

pub returns : goal.returns
returns c = none_allows
