use Rattle.review_grants.proofs.WhoLemmas.{unlisted_may_not}
use Rattle.review_grants.proofs.laws.unlisted_may_not.Goals as goal

pub returns : goal.returns
returns c = unlisted_may_not
