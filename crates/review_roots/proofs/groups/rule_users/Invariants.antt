use Rattle.std.proofs.Common.{◌≡◌, flat_map, take}
use Rattle.review_roots.specs.KnownGroups.{body_users}
use Rattle.review_roots.proofs.groups.rule_users.Given as goal

abbrev pub invariant-loop-entry : goal.invariant-loop-entry
invariant-loop-entry l = l.atoms.items ≡ flat_map (λ e. body_users l.checked e.body) (take l.entry-index l.checked.entries)
