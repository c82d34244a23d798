use Rattle.std.proofs.Common.{length}
use Rattle.sudo_parser.specs.Body.Rules.{ReadsToTag}
use Rattle.sudo_parser.specs.Body.Unread.{tokens_left}
use Rattle.sudo_parser.proofs.rules.tags.Given as goal

abbrev pub invariant-tags : goal.invariant-tags
invariant-tags l = ReadsToTag (tokens_left l.initial.unread) l.tags (tokens_left l.unread)

abbrev pub decreases-tags : goal.decreases-tags
decreases-tags l = length (tokens_left l.unread)
