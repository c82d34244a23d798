use Rattle.std.proofs.Common.{◌<◌, ℕ}
use Rattle.review_compare.specs.Body.Reaches.{Agrees}
use Rattle.review_compare.proofs.overlap.Rows.first_unlike.Given as goal

abbrev pub invariant-loop-index : goal.invariant-loop-index
invariant-loop-index l = (i : ℕ) → i < l.index → Agrees l.self.old.now l.self.new.now i l.self.front l.self.new_end
