use Rattle.std.proofs.Common.{◌≡◌, map, take}
use Rattle.review_roots.specs.Blocks.{sign_of}
use Rattle.review_roots.proofs.blocks.signs_of.Given as goal

abbrev pub invariant-loop-signed : goal.invariant-loop-signed
invariant-loop-signed l = l.signs.items ≡ map sign_of (take l.signed-index l.signed-items)
