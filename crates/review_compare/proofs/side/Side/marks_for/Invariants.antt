use Rattle.review_compare.specs.Body.Chosen.{AreMarks}
use Rattle.review_compare.proofs.side.Side.marks_for.Given as goal

abbrev pub invariant-loop-index : goal.invariant-loop-index
invariant-loop-index l = AreMarks l.self.checked.now l.self.blocks.items l.host l.marks.items
