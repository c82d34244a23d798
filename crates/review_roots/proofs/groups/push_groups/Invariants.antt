use Rattle.std.proofs.Common.{◌≡◌, drop, fold}
use Rattle.review_roots.specs.KnownGroups.{with_group}
use Rattle.review_roots.proofs.groups.push_groups.Given as goal

abbrev pub invariant-loop-group : goal.invariant-loop-group
invariant-loop-group l = fold with_group l.groups.items (drop l.group-index l.more) ≡ fold with_group l.initial.groups.items l.more
