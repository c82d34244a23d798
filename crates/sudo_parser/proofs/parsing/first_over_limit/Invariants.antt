use Rattle.std.proofs.Common.{◌≡◌, length}
use Rattle.sudo_parser.specs.Body.Limits.{room_of}
use Rattle.sudo_parser.specs.Parsed.{over_limit, over_limit_from}
use Rattle.sudo_parser.proofs.parsing.first_over_limit.Given as goal

abbrev pub invariant-loop-entry : goal.invariant-loop-entry
invariant-loop-entry l = record { left : over_limit l.entries ≡ over_limit_from (room_of l.room) l.left }

abbrev pub decreases-loop-entry : goal.decreases-loop-entry
decreases-loop-entry l = length l.left
