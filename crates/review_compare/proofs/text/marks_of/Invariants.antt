use Rattle.std.proofs.Common.{take}
use Rattle.review_compare.specs.Body.Lines.{AreMarked}
use Rattle.review_compare.proofs.text.marks_of.Given as goal

abbrev pub invariant-loop-number : goal.invariant-loop-number
invariant-loop-number l = AreMarked l.count (take l.number-index l.numbers) l.marks.items
