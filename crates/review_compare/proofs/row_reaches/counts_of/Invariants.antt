use Rattle.std.proofs.Common.{◌≡◌, map, take}
use Rattle.review_compare.specs.Cells.{lined_of}
use Rattle.review_compare.specs.Body.RowReaches.{reach_in}
use Rattle.review_compare.specs.Body.Shown.{shown}
use Rattle.review_compare.proofs.row_reaches.counts_of.Given as goal

abbrev pub invariant-loop-block : goal.invariant-loop-block
invariant-loop-block l = l.counts.items ≡ map (reach_in (lined_of (shown l.row))) (take l.block-index l.blocks)
