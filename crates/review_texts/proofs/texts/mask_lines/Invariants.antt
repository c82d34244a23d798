use Rattle.std.proofs.Common.{length}
use Rattle.review_texts.proofs.Blocks.{Along}
use Rattle.review_texts.proofs.texts.mask_lines.Given as goal

abbrev pub invariant-loop-line : goal.invariant-loop-line
invariant-loop-line l = Along l.fn.readable l.fn.lines l.fn.text l.left l.rest l.masked

abbrev pub decreases-loop-line : goal.decreases-loop-line
decreases-loop-line l = length l.left
