use Rattle.std.proofs.Common.{take}
use Rattle.review_compare.specs.Body.Settled.{ChosenAlike}
use Rattle.review_compare.proofs.settled.twins_before.Given as goal

abbrev pub invariant-loop-front : goal.invariant-loop-front
invariant-loop-front l = ChosenAlike l.parts (take l.front l.old) (take l.front l.new)
