use Rattle.std.proofs.Common.{◌≡◌, take}
use Rattle.review_compare.proofs.copied.copied_witnesses.Given as goal

abbrev pub invariant-loop-witness : goal.invariant-loop-witness
invariant-loop-witness l = l.copies.items ≡ take l.witness-index l.found
