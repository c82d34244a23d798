use Rattle.std.proofs.Common.{◌≡◌, flat_map, take}
use Rattle.review_roots.specs.Body.Unnamed.{block_users}
use Rattle.review_roots.proofs.unnamed.users_of.Given as goal

abbrev pub invariant-loop-block : goal.invariant-loop-block
invariant-loop-block l = l.atoms.items ≡ flat_map (block_users l.checked) (take l.block-index l.blocks)
