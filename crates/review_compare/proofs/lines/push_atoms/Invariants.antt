use Rattle.std.proofs.Common.{◌≡◌, ◌++◌, map, take}
use Rattle.review_compare.specs.Body.LineAtoms.{row_atom}
use Rattle.review_compare.proofs.lines.push_atoms.Given as goal

abbrev pub invariant-loop-row : goal.invariant-loop-row
invariant-loop-row l = l.atoms.items ≡ l.initial.atoms.items ++ map row_atom (take l.row-index l.block.rows.items)
