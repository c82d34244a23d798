use Rattle.sudo_parser.specs.Body.Rules.{StopsInSpec}
use Rattle.sudo_parser.specs.Body.Unread.{tokens_left}
use Rattle.sudo_parser.proofs.Steps.{passed-on}
use Rattle.sudo_parser.proofs.RuleSteps.{spec-reads, spec-stops}
use Rattle.sudo_parser.proofs.rules.spec.Goals as goal

pub returns-clause-reads : goal.returns-clause-reads
returns-clause-reads c =
    spec-reads (tokens_left c.args.unread.now) (tokens_left c.runas.new.unread) (tokens_left c.tags.new.unread)
    (tokens_left c.item.new.unread) c.in_ok-runas.runas c.in_ok-tags.tags c.in_ok-command.command
    c.in_ok-runas.ensures.reads c.in_ok-tags.ensures c.in_ok-command.ensures.reads

pub returns-in_err-command-clause-stops : goal.returns-in_err-command-clause-stops
returns-in_err-command-clause-stops c =
    passed-on c.from_residual-in_err-command.result c.in_err-command.field-0.0
    (StopsInSpec (tokens_left c.args.unread.now)) c.from_residual-in_err-command.ensures.1
    (spec-stops (tokens_left c.args.unread.now) (tokens_left c.runas.new.unread) (tokens_left c.tags.new.unread)
    c.in_ok-runas.runas c.in_ok-tags.tags _ c.in_ok-runas.ensures.reads c.in_ok-tags.ensures c.in_err-command.ensures.stops)
