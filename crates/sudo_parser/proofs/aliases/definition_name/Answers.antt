use Rattle.std.proofs.Common.{sym, ◌∙◌}
use Rattle.sudo_parser.specs.Body.Unread.{tokens_left}
use Rattle.sudo_parser.proofs.AliasSteps.{name-full, name-missing, name-other}
use Rattle.sudo_parser.proofs.aliases.definition_name.Goals as goal

pub returns-then-is_full-clause-stops : goal.returns-then-is_full-clause-stops
returns-then-is_full-clause-stops c =
    rw c.len-left.ensures (name-full c.args.is_full (tokens_left c.args.unread.now) _ _ c.in-Some-2.name c.in-Some.ensures
    (sym c.in_ok-name-in-Some.ensures ∙ c.in-Some-2.is) c.if-is_full.true)

pub returns-in-None-clause-stops : goal.returns-in-None-clause-stops
returns-in-None-clause-stops c =
    rw c.wants.ensures (name-missing c.args.is_full (tokens_left c.args.unread.now) c.in-None.ensures)

pub returns-in-None-2-clause-stops : goal.returns-in-None-2-clause-stops
returns-in-None-2-clause-stops c =
    rw (c.wants-in-None-2.ensures, c.len-left.ensures) (name-other c.args.is_full (tokens_left c.args.unread.now) _ _
    c.in-Some.ensures (sym c.in_ok-name-in-Some.ensures ∙ c.in-None-2.is))
