use Rattle.std.proofs.Common.{◌≡◌, length}
use Rattle.sudo_text.specs.Lines.{physical_lines}
use Rattle.review_hints.specs.FaultyLines as spec
use Rattle.review_hints.proofs.faulty_line.faulty_line.Given as goal

abbrev pub invariant-loop-rest : goal.invariant-loop-rest
invariant-loop-rest l = spec.faulty_line (physical_lines l.rest) l.at ≡ spec.faulty_line (physical_lines l.fn.text) l.fn.at

abbrev pub decreases-loop-rest : goal.decreases-loop-rest
decreases-loop-rest l = length l.rest
