use Rattle.review_roots.proofs.LevelLemmas.{all_allows}
use Rattle.review_grants.proofs.TargetLemmas.{verdict_is_where}
use Rattle.review_roots.proofs.laws.all_allows_all.Goals as goal

pub returns : goal.returns
returns c = record { allowed = all_allows; verdict = verdict_is_where }
