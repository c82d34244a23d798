use Rattle.std.proofs.Common.{sym}
use Rattle.sudo_parser.specs.Body.Defaults.{IsOperatorNext, StopsInParameter}
use Rattle.sudo_parser.specs.Body.Unread.{tokens_left}
use Rattle.sudo_parser.proofs.Steps.{passed-on}
use Rattle.sudo_parser.proofs.DefaultsSteps.{name-missing, switched_reads, value-missing}
use Rattle.sudo_parser.proofs.defaults.parameter.Goals as goal

pub returns-in_err-name-clause-stops : goal.returns-in_err-name-clause-stops
returns-in_err-name-clause-stops c =
    passed-on c.from_residual.result c.in_err-name.field-0.0 (StopsInParameter (tokens_left c.args.unread.now))
    c.from_residual.ensures.1
    (name-missing (tokens_left c.args.unread.now) c.take_bangs-bangs.result (tokens_left c.take_bangs-bangs.new.self) _
    c.take_bangs-bangs.ensures.reads c.take_bangs-bangs.ensures.no_more c.in_err-name.ensures.stops)

pub returns-then-bangs-ne0-clause-reads : goal.returns-then-bangs-ne0-clause-reads
returns-then-bangs-ne0-clause-reads c =
    switched_reads (tokens_left c.args.unread.now) c.take_bangs-bangs.result (tokens_left c.take_bangs-bangs.new.self)
    c.in_ok-name.name (tokens_left c.word.new.unread) c.take_bangs-bangs.ensures.reads c.in_ok-name.ensures.reads
    c.if-bangs-ne0.true

pub returns-in_err-value-in-Some-clause-stops : goal.returns-in_err-value-in-Some-clause-stops
returns-in_err-value-in-Some-clause-stops c =
    let z = c.if-bangs-ne0.false in
    let next : IsOperatorNext (tokens_left c.word.new.unread) c.in-Some.operator (tokens_left c.skip.new.self) =
    rw (c.skip.ensures, sym c.as_slice.ensures) c.in-Some.ensures.operator in
    passed-on c.from_residual-in_err-value-in-Some.result c.in_err-value-in-Some.field-0.0
    (StopsInParameter (tokens_left c.args.unread.now)) c.from_residual-in_err-value-in-Some.ensures.1
    (value-missing (tokens_left c.args.unread.now) c.take_bangs-bangs.result (tokens_left c.take_bangs-bangs.new.self)
    c.in_ok-name.name (tokens_left c.word.new.unread) c.in-Some.operator (tokens_left c.skip.new.self) _
    c.take_bangs-bangs.ensures.reads z c.in_ok-name.ensures.reads next c.in_err-value-in-Some.ensures.stops)
