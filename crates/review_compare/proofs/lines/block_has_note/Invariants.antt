use Rattle.std.proofs.Common.{◌≡◌, drop, map}
use Rattle.review_compare.specs.Blocks.{block_wide, block_wides}
use Rattle.review_compare.specs.Body.LineAtoms.{has_note}
use Rattle.review_compare.proofs.lines.block_has_note.Given as goal

-- those passed do not stand for notes
abbrev pub invariant-loop-row : goal.invariant-loop-row
invariant-loop-row l =
    has_note (block_wides l.block) ≡ has_note (map (block_wide l.block) (drop l.row-index l.block.rows.items))
