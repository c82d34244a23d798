use Rattle.std.proofs.Common.{◌≡◌, take}
use Rattle.review_roots.proofs.state.groups_copied.Given as goal

abbrev pub invariant-loop-group : goal.invariant-loop-group
invariant-loop-group l = l.copies.items ≡ take l.group-index l.groups
