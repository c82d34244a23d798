use Rattle.std.proofs.Common.{◌∙◌, sym}
use Rattle.sudo_base.proofs.Options.{on_ok}
use Rattle.review_compare.specs.Body.Asked.{asked_by, shown_cases}
use Rattle.review_compare.proofs.CaseSteps.{away-block, there-block}
use Rattle.review_compare.proofs.request_cases.add_block.Goals as goal

pub returns-then-not-stands : goal.returns-then-not-stands
returns-then-not-stands c =
    sym (away-block c.args.command.now c.args.arguments.now c.args.checked.now (asked_by c.args.directory.now c.args.asker)
    (shown_cases c.args.cases.now) c.args.block.now (sym c.stands.ensures ∙ c.if-not-stands.true))

pub returns : goal.returns
returns c =
    on_ok c.add_rows.result
    (λ is. is ∙ there-block c.args.command.now c.args.arguments.now c.args.checked.now (asked_by c.args.directory.now c.args.asker)
    (shown_cases c.args.cases.now) c.args.block.now (sym c.stands.ensures ∙ c.if-not-stands.false))
    c.add_rows.ensures
