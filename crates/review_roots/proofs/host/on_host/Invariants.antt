use Rattle.std.proofs.Common.{◌≡◌, map, take}
use Rattle.review_roots.specs.Blocks.{is_for}
use Rattle.review_roots.proofs.host.on_host.Given as goal

abbrev pub invariant-loop-index : goal.invariant-loop-index
invariant-loop-index l = l.on.items ≡ map (is_for l.checked l.host) (take l.index l.blocks)
