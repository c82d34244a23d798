use Rattle.std.proofs.Common.{sym, ◌∙◌}
use Rattle.sudo_parser.specs.Body.Limits.{room_of}
use Rattle.sudo_parser.specs.Body.Unread.{tokens_left}
use Rattle.sudo_parser.proofs.LineSteps.{rule-gives, not_include}
use Rattle.sudo_parser.proofs.line.read.Goals as goal

pub returns-in-Rule : goal.returns-in-Rule
returns-in-Rule c =
    rule-gives (room_of c.args.room.now) (tokens_left c.args.unread.now) c.in-Some.found.0.now c.in-Some.found.1.now
    c.rule.result (sym c.as_slice.ensures ∙ c.in-Some.ensures)
    (sym (c.in-Rule.ensures (not_include c.in-Some.found.0.now.kind c.in_default.not-Include)))
    (c.rule.ensures (room_of c.args.room.now))
