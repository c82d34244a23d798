use Rattle.review_compare.specs.Body.Trials.{StayWitnesses}
use Rattle.review_compare.proofs.trials.try_path.Given as goal

abbrev pub invariant-loop-arguments : goal.invariant-loop-arguments
invariant-loop-arguments l = StayWitnesses l.trial l.initial.found.items l.found.items
