use Rattle.std.proofs.Common.{◌≡◌, drop}
use Rattle.sudo_text.specs.Lines.{physical_lines}
use Rattle.review_hints.specs.FaultyLines.{lines_from}
use Rattle.review_hints.proofs.faulty_line.text_from.Given as goal

abbrev pub invariant-loop-before : goal.invariant-loop-before
invariant-loop-before l = drop l.before (physical_lines l.rest) ≡ lines_from l.text l.number

abbrev pub decreases-loop-before : goal.decreases-loop-before
decreases-loop-before l = l.before
