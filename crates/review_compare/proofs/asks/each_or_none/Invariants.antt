use Rattle.std.proofs.Common.{◌≡◌, ◌∷◌, map, None, Some}
use Rattle.std.specs.List.{range_with_len}
use Rattle.review_compare.proofs.asks.each_or_none.Given as goal

abbrev pub invariant-loop-number : goal.invariant-loop-number
invariant-loop-number l = l.numbers.items ≡ None ∷ map (λ i. Some i) (range_with_len 0 l.number)
