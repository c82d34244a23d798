use Rattle.std.proofs.Common.{◌≡◌, length}
use Rattle.review_cautions.specs.PhysicalLines.{contains}
use Rattle.review_cautions.proofs.lines.contains.Given as goal

abbrev pub invariant-loop-rest : goal.invariant-loop-rest
invariant-loop-rest l = contains l.word l.rest ≡ contains l.word l.line

abbrev pub decreases-loop-rest : goal.decreases-loop-rest
decreases-loop-rest l = length l.rest
