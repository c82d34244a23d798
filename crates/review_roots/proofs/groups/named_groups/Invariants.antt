use Rattle.std.proofs.Common.{◌≡◌, take}
use Rattle.std.specs.Prelude.{filter}
use Rattle.review_roots.specs.KnownGroups.{list_names}
use Rattle.review_roots.proofs.groups.named_groups.Given as goal

abbrev pub invariant-loop-group : goal.invariant-loop-group
invariant-loop-group l = l.groups.items ≡ filter (λ g. list_names g l.atoms.items) (take l.group-index l.group-items)
