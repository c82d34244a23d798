use Rattle.std.proofs.Common.{◌≤◌, length}
use Rattle.sudo_parser.specs.Body.Rules.{ReadsToSpec}
use Rattle.sudo_parser.specs.Body.Unread.{tokens_left}
use Rattle.sudo_parser.proofs.rules.specs.Given as goal

abbrev pub invariant-specs : goal.invariant-specs
invariant-specs l =
    (length (tokens_left l.unread) ≤ length (tokens_left l.initial.unread))
    × ReadsToSpec (tokens_left l.initial.unread) l.specs (tokens_left l.unread)

abbrev pub decreases-specs : goal.decreases-specs
decreases-specs l = length (tokens_left l.unread)
