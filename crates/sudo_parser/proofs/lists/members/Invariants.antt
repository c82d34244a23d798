use Rattle.std.proofs.Common.{◌≤◌, length}
use Rattle.sudo_parser.specs.Body.Lists.{ReadsToItem}
use Rattle.sudo_parser.specs.Body.Unread.{tokens_left}
use Rattle.sudo_parser.proofs.lists.members.Given as goal

abbrev pub invariant-items : goal.invariant-items
invariant-items l =
    (length (tokens_left l.unread) ≤ length (tokens_left l.initial.unread))
    × ReadsToItem l.kind (tokens_left l.initial.unread) l.members (tokens_left l.unread)

abbrev pub decreases-items : goal.decreases-items
decreases-items l = length (tokens_left l.unread)
