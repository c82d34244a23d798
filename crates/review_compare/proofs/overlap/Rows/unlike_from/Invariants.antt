use Rattle.review_compare.specs.Body.Reaches.{AgreesFrom}
use Rattle.review_compare.proofs.overlap.Rows.unlike_from.Given as goal

abbrev pub invariant-loop-index : goal.invariant-loop-index
invariant-loop-index l = AgreesFrom l.self.old.now l.self.new.now l.at l.from l.index
