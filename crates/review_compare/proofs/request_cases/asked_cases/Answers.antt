use Rattle.std.proofs.Common.{◌∙◌, arith, sym}
use Rattle.review_compare.specs.Body.Asked.{asked_by, shown_cases}
use Rattle.review_compare.proofs.CaseSteps.{block-next, blocks-done}
use Rattle.review_compare.proofs.request_cases.asked_cases.Goals as goal

pub loop-block-preserved : goal.loop-block-preserved
loop-block-preserved c =
    block-next c.args.command.now c.args.arguments.now c.args.checked.now (asked_by c.args.directory.now c.args.asker)
    (shown_cases c.loop-block.cases) (shown_cases c.add_block.new.cases) c.args.blocks.now c.loop-block.block-index c.block-item.result
    c.loop-block-test.true c.block-item.is c.in_ok-add_block.ensures
    ∙ c.loop-block.invariant

pub returns : goal.returns
returns c =
    sym (blocks-done c.args.command.now c.args.arguments.now c.args.checked.now (asked_by c.args.directory.now c.args.asker)
    (shown_cases c.loop-block.cases) c.args.blocks.now c.loop-block.block-index (omega (arith, c.loop-block-test.false)))
    ∙ c.loop-block.invariant
