use Rattle.review_compare.specs.Body.Reaches.{NoneAgree}
use Rattle.review_compare.proofs.overlap.Rows.unlike_none.Given as goal

abbrev pub invariant-loop-index : goal.invariant-loop-index
invariant-loop-index l = NoneAgree l.self.old.now l.self.new.now l.self.front l.index
