use Rattle.std.proofs.Common.{◌≡◌, take}
use Rattle.review_roots.specs.Blocks.{lists}
use Rattle.review_roots.specs.Body.Raising.{indices}
use Rattle.review_roots.proofs.base.listed_beside.Given as goal

abbrev pub invariant-loop-index : goal.invariant-loop-index
invariant-loop-index l = l.listed.items ≡ indices (lists l.ground.checked.now l.person) (take l.index l.ground.blocks.now)
