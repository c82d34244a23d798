use Rattle.std.proofs.Common.{◌≡◌, length, true}
use Rattle.review_cautions.specs.Arguments.{has_lone_equals}
use Rattle.review_cautions.proofs.arguments.has_lone_equals.Given as goal

abbrev pub invariant-loop-rest : goal.invariant-loop-rest
invariant-loop-rest l = has_lone_equals l.fresh l.rest ≡ has_lone_equals true l.arguments

abbrev pub decreases-loop-rest : goal.decreases-loop-rest
decreases-loop-rest l = length l.rest
