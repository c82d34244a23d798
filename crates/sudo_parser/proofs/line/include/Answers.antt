use Rattle.std.proofs.Common.{sym, ◌∙◌}
use Rattle.sudo_parser.proofs.LineSteps.{include-escaped, include-more, not_empty}
use Rattle.sudo_parser.proofs.line.include.Goals as goal

pub returns-then-has_host_escape : goal.returns-then-has_host_escape
returns-then-has_host_escape c = λ room t is.
    include-escaped room t c.args.rest.now c.args.folder c.args.hash c.args.path.now c.args.left
    (sym c.has_host_escape.ensures ∙ c.if-has_host_escape.true) is c.requires

pub returns-then-not-is_empty : goal.returns-then-not-is_empty
returns-then-not-is_empty c = λ room t is.
    rw c.wants-then-not-is_empty.ensures (include-more room t c.args.rest.now c.args.folder c.args.hash c.args.path.now
    (not_empty c.args.path.now (sym c.is_empty.ensures ∙ c.if-is_empty.false))
    (sym c.has_host_escape.ensures ∙ c.if-has_host_escape.false) is
    (not_empty c.args.rest.now (sym c.is_empty-2.ensures ∙ c.if-not-is_empty.true)))
