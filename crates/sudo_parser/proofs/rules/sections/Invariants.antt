use Rattle.std.proofs.Common.{◌≤◌, length}
use Rattle.sudo_parser.specs.Body.Rules.{ReadsToSection}
use Rattle.sudo_parser.specs.Body.Unread.{tokens_left}
use Rattle.sudo_parser.proofs.rules.sections.Given as goal

abbrev pub invariant-sections : goal.invariant-sections
invariant-sections l =
    (length (tokens_left l.unread) ≤ length (tokens_left l.initial.unread))
    × ReadsToSection (tokens_left l.initial.unread) l.sections (tokens_left l.unread)

abbrev pub decreases-sections : goal.decreases-sections
decreases-sections l = length (tokens_left l.unread)
