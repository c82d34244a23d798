use Rattle.std.proofs.Common.{◌≤◌, length}
use Rattle.sudo_parser.specs.Body.Aliases.{ReadsToDefinition}
use Rattle.sudo_parser.specs.Body.Unread.{tokens_left}
use Rattle.sudo_parser.proofs.aliases.aliases.Given as goal

abbrev pub invariant-definitions : goal.invariant-definitions
invariant-definitions l =
    (length (tokens_left l.unread) ≤ length (tokens_left l.initial.unread))
    × ReadsToDefinition l.kind l.limit (tokens_left l.initial.unread) l.definitions (tokens_left l.unread)

abbrev pub decreases-definitions : goal.decreases-definitions
decreases-definitions l = length (tokens_left l.unread)
