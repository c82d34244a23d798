use Rattle.std.proofs.Common.{◌≡◌, map, take}
use Rattle.review_roots.specs.Blocks.{lists}
use Rattle.review_roots.proofs.base.passes_of.Given as goal

abbrev pub invariant-loop-index : goal.invariant-loop-index
invariant-loop-index l = l.passes.items ≡ map (lists l.ground.checked.now l.person) (take l.index l.ground.blocks.now)
