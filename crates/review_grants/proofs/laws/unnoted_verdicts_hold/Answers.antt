use Rattle.review_grants.proofs.UnnotedLemmas.{last_holds, none_holds, verdict_holds}
use Rattle.review_grants.proofs.laws.unnoted_verdicts_hold.Goals as goal

pub returns : goal.returns
returns c = record { last = last_holds; none = none_holds; verdict = verdict_holds }
