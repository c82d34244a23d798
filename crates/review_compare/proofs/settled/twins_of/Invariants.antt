use Rattle.review_compare.specs.Body.Settled.{AreTwins}
use Rattle.review_compare.proofs.settled.twins_of.Given as goal

abbrev pub invariant-loop-index : goal.invariant-loop-index
invariant-loop-index l = AreTwins l.parts l.twins.items
