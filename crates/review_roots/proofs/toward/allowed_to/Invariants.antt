use Rattle.std.proofs.Common.{◌≡◌, map, option_copied, take}
use Rattle.review_roots.specs.Body.Towards.{block_allows}
use Rattle.review_roots.proofs.toward.allowed_to.Given as goal

abbrev pub invariant-loop-index : goal.invariant-loop-index
invariant-loop-index l = l.allowed.items
    ≡ map (block_allows l.ground.checked.now l.ground.directory.now l.user l.host l.target (option_copied l.group))
    (take l.index l.ground.blocks.now)
