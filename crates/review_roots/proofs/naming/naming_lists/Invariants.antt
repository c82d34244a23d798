use Rattle.std.proofs.Common.{◌≡◌, map, take}
use Rattle.review_roots.specs.KnownGroups.{list_names}
use Rattle.review_roots.proofs.naming.naming_lists.Given as goal

abbrev pub invariant-loop-list : goal.invariant-loop-list
invariant-loop-list l = l.row.items ≡ map (λ v. list_names l.group v.items) (take l.list-index l.lists)
