use Rattle.std.proofs.Common.{◌≡◌, ◌++◌, length}
use Rattle.review_compare.specs.Table.{each_of}
use Rattle.review_compare.proofs.text.each_of.Given as goal

abbrev pub invariant-loop-left : goal.invariant-loop-left
invariant-loop-left l = each_of l.groups ≡ l.each.items ++ each_of l.left

abbrev pub decreases-loop-left : goal.decreases-loop-left
decreases-loop-left l = length l.left
