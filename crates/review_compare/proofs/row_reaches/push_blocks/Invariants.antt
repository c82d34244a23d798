use Rattle.std.proofs.Common.{All}
use Rattle.review_compare.specs.Body.RowReaches.{AreReaches}
use Rattle.review_compare.proofs.row_reaches.push_blocks.Given as goal

abbrev pub invariant-loop-index : goal.invariant-loop-index
invariant-loop-index l = All (AreReaches l.parts) l.all.items
