use Rattle.std.proofs.Common.{◌≡◌, ◌++◌, flat_map, length}
use Rattle.review_compare.specs.Table.{by_target}
use Rattle.review_compare.specs.Body.Lines.{separated}
use Rattle.review_compare.proofs.text.push_target_groups.Given as goal

abbrev pub invariant-loop-left : goal.invariant-loop-left
invariant-loop-left l =
    l.initial.text.items ++ flat_map separated (by_target l.groups) ≡ l.text.items ++ flat_map separated (by_target l.left)

abbrev pub decreases-loop-left : goal.decreases-loop-left
decreases-loop-left l = length l.left
