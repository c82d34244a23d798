use Rattle.std.proofs.Common.{◌≡◌, ◌+◌, ◌<◌, ◌≤◌, length, true}
use Rattle.sudo_text.specs.Lines.{physical_lines, logical_lines_from}
use Rattle.sudo_text.proofs.Progress.{progress}
use Rattle.sudo_text.proofs.folding.logical_line.Given as goal

abbrev pub invariant-loop-continued : goal.invariant-loop-continued
invariant-loop-continued l = record {
  progress : progress l.file l.first l.number l.joined.items l.joins.items l.continued l.line (physical_lines l.rest)
      ≡ logical_lines_from l.file l.first (physical_lines l.text);
  some : l.continued ≡ true → 0 < length l.line;
  bytes : length l.joined.items + length l.line + length l.rest ≤ length l.text;
  shorter : length l.rest < length l.text;
  numbers : l.number + 1 + length l.rest ≤ l.first + length l.text;
}

abbrev pub decreases-loop-continued : goal.decreases-loop-continued
decreases-loop-continued l = length l.rest
