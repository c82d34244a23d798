use Rattle.review_compare.specs.Body.Trials.{StayWitnesses}
use Rattle.review_compare.proofs.trials.try_all_own.Given as goal

abbrev pub invariant-loop-index : goal.invariant-loop-index
invariant-loop-index l = StayWitnesses l.trial l.initial.found.items l.found.items
