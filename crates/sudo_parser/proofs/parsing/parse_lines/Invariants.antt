use Rattle.std.proofs.Common.{◌≡◌, ◌≤◌, length}
use Rattle.std.specs.Prelude.{All}
use Rattle.std.specs.Vec.Iter.{into_iter_items}
use Rattle.sudo_text.specs.declared.line.Line.{Line}
use Rattle.sudo_parser.specs.Body.Limits.{room_of}
use Rattle.sudo_parser.specs.Parsed.{room_after}
use Rattle.sudo_parser.proofs.ParsedLemmas.{Along}
use Rattle.sudo_parser.proofs.parsing.parse_lines.Given as goal

abbrev pub invariant-loop-line : goal.invariant-loop-line
invariant-loop-line l = record {
  can_next : goal.iterator-loop-line.can_next l.line-iterator;
  is_finite : goal.iterator-loop-line.is_finite l.line-iterator;
  short : All (λ (line : Line). length line.text ≤ 16777216) (into_iter_items l.line-iterator);
  room : room_of l.room ≡ room_after l.entries;
  along : Along l.fn.lines.items l.entries (into_iter_items l.line-iterator);
}
