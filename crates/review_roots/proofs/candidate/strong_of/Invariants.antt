use Rattle.std.proofs.Common.{◌≡◌, take}
use Rattle.std.specs.Prelude.{filter}
use Rattle.review_roots.specs.Blocks.{lists}
use Rattle.review_roots.specs.Body.Raising.{passes_at}
use Rattle.review_roots.proofs.candidate.strong_of.Given as goal

abbrev pub invariant-loop-index : goal.invariant-loop-index
invariant-loop-index l = l.strong.items
    ≡ filter (passes_at (lists l.ground.checked.now l.person) l.ground.blocks.now) (take l.index-index l.ground.raising.now)
