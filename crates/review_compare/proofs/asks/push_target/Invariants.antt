use Rattle.std.proofs.Common.{◌≡◌, ◌++◌, take}
use Rattle.review_compare.specs.Differences.{asks_with}
use Rattle.review_compare.proofs.asks.push_target.Given as goal

abbrev pub invariant-loop-group : goal.invariant-loop-group
invariant-loop-group l = l.asks.items ≡ l.initial.asks.items ++ asks_with (take l.group-index l.groups) l.target
