use Rattle.review_compare.specs.Body.Merged.{AreOrdered}
use Rattle.review_compare.proofs.row.ordered.Given as goal

abbrev pub invariant-loop-row : goal.invariant-loop-row
invariant-loop-row l = AreOrdered l.yielded l.ordered.items
