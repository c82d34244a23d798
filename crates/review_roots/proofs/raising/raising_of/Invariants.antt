use Rattle.std.proofs.Common.{◌≡◌, take}
use Rattle.review_roots.specs.Body.Raising.{block_raises, indices}
use Rattle.review_roots.proofs.raising.raising_of.Given as goal

abbrev pub invariant-loop-index : goal.invariant-loop-index
invariant-loop-index l = l.raising.items ≡ indices (block_raises l.least) (take l.index l.blocks)
