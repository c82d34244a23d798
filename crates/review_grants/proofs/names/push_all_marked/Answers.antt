use Rattle.review_grants.proofs.GrantSteps.{no-names-left}
use Rattle.review_grants.proofs.names.push_all_marked.Goals as goal

pub returns-in_default : goal.returns-in_default
returns-in_default c = no-names-left _ _ _ (λ v. v.items) c.loop-mark.left.now c.in_default.ensures.cases c.loop-mark.invariant
