use Rattle.std.proofs.Common.{◌≡◌, flat_map, map, take}
use Rattle.review_compare.specs.Table.{name_at}
use Rattle.review_compare.specs.Body.Lines.{separated}
use Rattle.review_compare.proofs.text.separated_names.Given as goal

abbrev pub invariant-loop-number : goal.invariant-loop-number
invariant-loop-number l = l.text.items
    ≡ flat_map (λ i. separated (name_at (map (λ v. v.items) l.names) i)) (take l.number-index l.numbers)
