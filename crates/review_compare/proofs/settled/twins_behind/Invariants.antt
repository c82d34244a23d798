use Rattle.std.proofs.Common.{◌-◌, drop, length}
use Rattle.review_compare.specs.Body.Settled.{ChosenAlike}
use Rattle.review_compare.proofs.settled.twins_behind.Given as goal

abbrev pub invariant-loop-back : goal.invariant-loop-back
invariant-loop-back l = ChosenAlike l.parts (drop (length l.old - l.back) l.old) (drop (length l.new - l.back) l.new)
