use Rattle.std.proofs.Common.{◌≡◌, take}
use Rattle.review_compare.proofs.LineLemmas.{atoms_of}
use Rattle.review_compare.proofs.lines.all_atoms.Given as goal

abbrev pub invariant-loop-block : goal.invariant-loop-block
invariant-loop-block l = l.atoms.items ≡ atoms_of (take l.block-index l.blocks)
