use Rattle.std.proofs.Common.{◌≡◌, ◌≤◌, length}
use Rattle.std.specs.Prelude.{All}
use Rattle.sudo_text.specs.declared.line.Line.{Line}
use Rattle.sudo_parser.specs.Body.Limits.{room_of}
use Rattle.sudo_parser.specs.Parsed.{room_after}
use Rattle.sudo_parser.proofs.ParsedLemmas.{Along}
use Rattle.sudo_parser.proofs.parsing.entries_of.Given as goal

abbrev pub invariant-loop-line : goal.invariant-loop-line
invariant-loop-line l = record {
  short : All (λ (line : Line). length line.text ≤ 16777216) l.left;
  room : room_of l.room ≡ room_after l.entries;
  along : Along l.lines l.entries l.left;
}

abbrev pub decreases-loop-line : goal.decreases-loop-line
decreases-loop-line l = length l.left
