use Rattle.std.proofs.Common.{All}
use Rattle.review_compare.specs.Body.RowReaches.{AreReaches}
use Rattle.review_compare.proofs.row_reaches.push_block.Given as goal

abbrev pub invariant-loop-row : goal.invariant-loop-row
invariant-loop-row l = All (AreReaches l.parts) l.all.items
