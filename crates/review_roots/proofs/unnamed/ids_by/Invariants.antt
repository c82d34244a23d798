use Rattle.std.proofs.Common.{◌≡◌, map, take}
use Rattle.std.specs.Prelude.{filter}
use Rattle.review_roots.specs.Body.Unnamed.{is_named}
use Rattle.review_roots.proofs.unnamed.ids_by.Given as goal

abbrev pub invariant-loop-group : goal.invariant-loop-group
invariant-loop-group l =
    l.ids.items ≡ map (λ g. g.gid) (filter (is_named l.atoms.users.items l.atoms.groups.items) (take l.group-index l.groups))
