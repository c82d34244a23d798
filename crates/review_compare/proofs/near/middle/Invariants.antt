use Rattle.std.proofs.Common.{◌≡◌, ◌≤◌, ◌+◌, ◌-◌}
use Rattle.std.specs.List.{range_with_len}
use Rattle.review_compare.proofs.near.middle.Given as goal

abbrev pub invariant-loop-index : goal.invariant-loop-index
invariant-loop-index l =
    (l.indices.items ≡ range_with_len l.fn.common.front (l.index - l.fn.common.front)) × (l.fn.common.front ≤ l.index)
    × (l.index ≤ l.fn.common.front + (l.index-end - l.fn.common.front))
