use Rattle.std.proofs.Common.{◌∙◌, ap, ◌++◌}
use Rattle.review_commands.proofs.RowSteps.{row_of}
use Rattle.review_commands.proofs.report_rows.push_answer.Goals as goal

pub returns-clause-text : goal.returns-clause-text
returns-clause-text c = λ sender is. row_of c.args.text.now.items _ _ _ _ _ c.args.scratch.now.sender.items sender _ _ _ _
    (c.in_ok-extend_from_slice.ensures.items ∙ ap (λ t. c.args.text.now.items ++ t) c.as_slice.ensures.value) is
    c.in_ok-push_asker.ensures c.in_ok-push_asked.ensures c.in_ok-push_verdict.ensures.text c.in_ok-push.ensures.items
