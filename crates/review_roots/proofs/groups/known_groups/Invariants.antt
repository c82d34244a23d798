use Rattle.std.proofs.Common.{◌≡◌, [], drop, fold}
use Rattle.sudo_match.specs.KnownRows.{groups_of}
use Rattle.review_roots.specs.KnownGroups.{with_group}
use Rattle.review_roots.proofs.groups.known_groups.Given as goal

abbrev pub invariant-loop-person : goal.invariant-loop-person
invariant-loop-person l =
    fold with_group l.groups.items (groups_of (drop l.person-index l.person-items)) ≡ fold with_group [] (groups_of l.person-items)
