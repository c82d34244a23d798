use Rattle.std.proofs.Common.{◌≡◌, ◌++◌, codes, flat_map, map, take}
use Rattle.review_compare.specs.Table.{name_at}
use Rattle.review_compare.proofs.text.all_but.Given as goal

abbrev pub invariant-loop-index : goal.invariant-loop-index
invariant-loop-index l = l.text.items
    ≡ codes "ALL" ++ flat_map (λ i. codes ", !" ++ name_at (map (λ v. v.items) l.names) i) (take l.index-index l.indices)
