use Rattle.std.proofs.Common.{◌≤◌, length}
use Rattle.sudo_parser.specs.Body.Defaults.{ReadsToParameter}
use Rattle.sudo_parser.specs.Body.Unread.{tokens_left}
use Rattle.sudo_parser.proofs.defaults.parameters.Given as goal

abbrev pub invariant-parameters : goal.invariant-parameters
invariant-parameters l =
    (length (tokens_left l.unread) ≤ length (tokens_left l.initial.unread))
    × ReadsToParameter (tokens_left l.initial.unread) l.parameters (tokens_left l.unread)

abbrev pub decreases-parameters : goal.decreases-parameters
decreases-parameters l = length (tokens_left l.unread)
