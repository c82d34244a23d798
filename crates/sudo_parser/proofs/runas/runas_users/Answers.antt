use Rattle.std.proofs.Common.{refl, subst}
use Rattle.sudo_text.specs.declared.token.Mark.TheVariants as marks
use Rattle.sudo_parser.specs.Body.Stops.{IsNotNext}
use Rattle.sudo_parser.specs.Body.Runas.{StopsInUsers}
use Rattle.sudo_parser.specs.Body.Unread.{tokens_left}
use Rattle.sudo_parser.proofs.Steps.{passed-on}
use Rattle.sudo_parser.proofs.RunasSteps.{users_stop}
use Rattle.sudo_parser.proofs.runas.runas_users.Goals as goal

pub returns-in_err-users-clause-stops : goal.returns-in_err-users-clause-stops
returns-in_err-users-clause-stops c =
    passed-on c.from_residual.result c.in_err-users.field-0.0 (StopsInUsers (tokens_left c.args.unread.now))
    c.from_residual.ensures.1
    (users_stop (tokens_left c.args.unread.now) _
    (subst (IsNotNext marks.Colon) c.as_slice-tokens.ensures (c.if-is_next.ensures.no refl))
    (subst (IsNotNext marks.RightParen) c.as_slice-tokens.ensures (c.if-is_next-2.ensures.no refl))
    c.in_err-users.ensures.stops)
