use Rattle.std.proofs.Common.{◌≡◌, drop, flat_map}
use Rattle.review_compare.specs.Blocks.{block_wides}
use Rattle.review_compare.specs.Body.LineAtoms.{has_note}
use Rattle.review_compare.proofs.lines.has_note.Given as goal

-- those passed have no notes
abbrev pub invariant-loop-block : goal.invariant-loop-block
invariant-loop-block l =
    has_note (flat_map block_wides l.blocks) ≡ has_note (flat_map block_wides (drop l.block-index l.blocks))
