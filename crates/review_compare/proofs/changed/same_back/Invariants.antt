use Rattle.std.proofs.Common.{◌≡◌, ◌-◌, drop, length, map}
use Rattle.review_compare.specs.Body.Shown.{ruling_of}
use Rattle.review_compare.proofs.changed.same_back.Given as goal

abbrev pub invariant-loop-back : goal.invariant-loop-back
invariant-loop-back l = map ruling_of (drop (length l.old - l.back) l.old) ≡ map ruling_of (drop (length l.new - l.back) l.new)
