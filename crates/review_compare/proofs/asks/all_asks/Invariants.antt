use Rattle.std.proofs.Common.{◌≡◌, flat_map, take}
use Rattle.review_compare.specs.Differences.{asks_with}
use Rattle.review_compare.proofs.asks.all_asks.Given as goal

abbrev pub invariant-loop-target : goal.invariant-loop-target
invariant-loop-target l = l.asks.items ≡ flat_map (asks_with l.group_numbers.items) (take l.target-index l.target-items)
