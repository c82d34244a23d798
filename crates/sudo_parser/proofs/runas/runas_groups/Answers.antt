use Rattle.std.proofs.Common.{refl, subst}
use Rattle.sudo_text.specs.declared.token.Mark.TheVariants as marks
use Rattle.sudo_parser.specs.Body.Stops.{IsNotNext}
use Rattle.sudo_parser.specs.Body.Runas.{StopsInGroups}
use Rattle.sudo_parser.specs.Body.Unread.{tokens_left}
use Rattle.sudo_parser.proofs.Steps.{passed-on}
use Rattle.sudo_parser.proofs.RunasSteps.{groups-stop}
use Rattle.sudo_parser.proofs.runas.runas_groups.Goals as goal

pub returns-in_err-groups-clause-stops : goal.returns-in_err-groups-clause-stops
returns-in_err-groups-clause-stops c =
    passed-on c.from_residual.result c.in_err-groups.field-0.0 (StopsInGroups (tokens_left c.args.unread.now))
    c.from_residual.ensures.1
    (groups-stop (tokens_left c.args.unread.now) _
    (subst (IsNotNext marks.RightParen) c.as_slice.ensures (c.if-is_next.ensures.no refl)) c.in_err-groups.ensures.stops)
