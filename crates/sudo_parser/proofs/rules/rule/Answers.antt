use Rattle.std.proofs.Common.{Result, Ok, Err, ◌≡◌, subst, sym}
use Rattle.std.specs.Result.{IsErrAnd}
use Rattle.sudo_grammar.specs.declared.policy.EntryBody.{EntryBody}
use Rattle.sudo_parser.specs.declared.stops.ParserStop.{ParserStop}
use Rattle.sudo_grammar.specs.Faults.{Stop}
use Rattle.sudo_parser.specs.Body.Stops.{Stops, GivesEntry}
use Rattle.sudo_parser.specs.Body.Unread.{tokens_left}
use Rattle.sudo_parser.proofs.RuleSteps.{rule-reads, rule-stops}
use Rattle.sudo_parser.proofs.rules.rule.Goals as goal

pub returns : goal.returns
returns c = λ room.
    rule-reads (tokens_left c.args.unread.now) c.in_ok-users.users (tokens_left c.members.new.unread)
    c.in_ok-sections.sections c.in_ok-users.ensures.reads
    c.in_ok-sections.ensures.reads room

stopped : (r : Result EntryBody ParserStop) (e : ParserStop) (given : Result EntryBody Stop) → IsErrAnd r (λ y. y ≡ e) → Stops e given
    → GivesEntry r given
stopped (Ok x) e given h p = absurd h
stopped (Err y) e given h p = subst (λ x. Stops x given) (sym h) p

pub returns-in_err-sections : goal.returns-in_err-sections
returns-in_err-sections c = λ room.
    stopped c.from_residual-in_err-sections.result c.in_err-sections.field-0.0 _ c.from_residual-in_err-sections.ensures.1
    (rule-stops (tokens_left c.args.unread.now) c.in_ok-users.users (tokens_left c.members.new.unread) _
    c.in_ok-users.ensures.reads c.in_err-sections.ensures.stops room)
