use Rattle.std.proofs.Common.{◌≡◌, ◌++◌, List, map}
use Rattle.sudo_grammar.specs.declared.kind.Atom.{Atom}
use Rattle.review_compare.specs.Blocks.{block_wide}
use Rattle.review_compare.specs.Cells.{lined}
use Rattle.review_compare.specs.Lines.{Line}
use Rattle.review_compare.specs.Body.LineAtoms.{IsWalk, block_atoms, line_behind}
use Rattle.review_compare.proofs.LineLemmas.{first_wides, other_atoms}
use Rattle.review_compare.proofs.lines.walked_rows.Given as goal

-- the rows so far are those of the line, and the walk is behind them
abbrev pub invariant-loop-row : goal.invariant-loop-row
invariant-loop-row m = (l : Line) (rest : List Atom) → IsWalk m.fn.walk l (block_atoms m.block ++ rest)
    → (map (block_wide m.block) m.rows.items ≡ lined l (first_wides m.block m.row-index))
    × IsWalk m.walk (line_behind l (first_wides m.block m.row-index)) (other_atoms m.block m.row-index rest)
