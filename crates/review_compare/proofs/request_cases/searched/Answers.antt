use Rattle.review_compare.specs.Body.Asked.{asked_by, shown_cases}
use Rattle.review_compare.proofs.CaseSteps.{if-ok, searched-cases}
use Rattle.review_compare.proofs.request_cases.searched.Goals as goal

pub returns-in-Ok : goal.returns-in-Ok
returns-in-Ok c =
    let side = c.args.side.now in
    if-ok c.asked_cases.result
    (λ k is. searched-cases side.checked.now c.args.directory.now c.args.request.now (asked_by c.args.directory.now c.in-Ok.asker)
    side.blocks.items c.deref.result.now c.as_slice-command.result.now c.as_slice-arguments.result.now (shown_cases k) side.are_blocks
    c.in-Ok.ensures c.deref.ensures.value c.as_slice-command.ensures c.as_slice-arguments.ensures is)
    c.asked_cases.ensures
