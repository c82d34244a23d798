use Rattle.std.proofs.Common.{◌≡◌, drop, false}
use Rattle.review_cautions.specs.PhysicalLines.{has_escape_of}
use Rattle.review_cautions.proofs.lines.has_escape_of.Given as goal

abbrev pub invariant-loop-other : goal.invariant-loop-other
invariant-loop-other l = has_escape_of l.byte l.behind (drop l.other-index l.line) ≡ has_escape_of l.byte false l.line
