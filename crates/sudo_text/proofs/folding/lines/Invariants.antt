use Rattle.std.proofs.Common.{◌≡◌, ◌+◌, ◌≤◌, length}
use Rattle.std.specs.Prelude.{All}
use Rattle.sudo_text.specs.declared.line.Line.{Line}
use Rattle.sudo_text.specs.Lines.{physical_lines, logical_lines_from, logical_lines, with_front}
use Rattle.sudo_text.proofs.folding.lines.Given as goal

abbrev pub invariant-loop-rest : goal.invariant-loop-rest
invariant-loop-rest l = record {
  logical_lines : with_front l.lines.items (logical_lines_from l.file l.number (physical_lines l.rest)) ≡ logical_lines l.file l.text;
  short : All (λ (line : Line). length line.text ≤ 16777216) l.lines.items;
  within : length l.rest ≤ 16777216;
  numbers : l.number + length l.rest ≤ 1 + length l.text;
}

abbrev pub decreases-loop-rest : goal.decreases-loop-rest
decreases-loop-rest l = length l.rest
