use Rattle.std.proofs.Common.{◌≡◌, map, take}
use Rattle.review_compare.specs.Body.Shown.{ruling_of}
use Rattle.review_compare.proofs.changed.same_front.Given as goal

abbrev pub invariant-loop-front : goal.invariant-loop-front
invariant-loop-front l = map ruling_of (take l.front l.old) ≡ map ruling_of (take l.front l.new)
