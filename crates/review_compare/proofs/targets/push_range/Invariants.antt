use Rattle.std.proofs.Common.{◌≡◌, ◌≤◌, ◌++◌, Some}
use Rattle.std.specs.Prelude.{◌-◌, map}
use Rattle.std.specs.List.{range_with_len}
use Rattle.review_compare.proofs.targets.push_range.Given as goal

abbrev pub invariant-loop-index : goal.invariant-loop-index
invariant-loop-index l = (l.targets.items ≡ l.fn.targets.items ++ map (λ i. Some i) (range_with_len l.fn.first (l.index - l.fn.first)))
    × (l.fn.first ≤ l.index) × (l.index - l.fn.first ≤ l.fn.end - l.fn.first)
