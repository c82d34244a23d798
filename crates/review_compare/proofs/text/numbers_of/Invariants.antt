use Rattle.std.proofs.Common.{◌≡◌, ◌++◌, length}
use Rattle.review_compare.specs.Table.{numbers_of}
use Rattle.review_compare.proofs.text.numbers_of.Given as goal

abbrev pub invariant-loop-number : goal.invariant-loop-number
invariant-loop-number l = numbers_of l.numbers ≡ l.there.items ++ numbers_of l.left

abbrev pub decreases-loop-number : goal.decreases-loop-number
decreases-loop-number l = length l.left
