use Rattle.std.proofs.Common.{◌≡◌, map, take}
use Rattle.review_roots.specs.Body.Naming.{trimmed}
use Rattle.review_roots.specs.KnownGroups.{list_names}
use Rattle.review_roots.proofs.naming.rows_by.Given as goal

abbrev pub invariant-loop-group : goal.invariant-loop-group
invariant-loop-group l =
    map (λ v. v.items) l.rows.items
    ≡ map (λ g. trimmed (map (λ v. list_names g v.items) l.lists)) (take l.group-index l.groups)
