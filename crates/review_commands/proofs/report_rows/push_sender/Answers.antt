use Rattle.std.proofs.Common.{◌∙◌}
use Rattle.audit_files.specs.Report.{line}
use Rattle.review_grants.proofs.ListSteps.{flat_map-next}
use Rattle.review_commands.specs.Rows.{answer_fields}
use Rattle.review_commands.proofs.report_rows.push_sender.Goals as goal

pub loop-answer-preserved : goal.loop-answer-preserved
loop-answer-preserved c = (
  c.in_ok-push_answer.ensures.sender ∙ c.loop-answer.invariant.0,
  flat_map-next (λ a. line (answer_fields c.args.policy.now c.args.sender.now.name a)) c.as_slice-answer-items.result.now
      c.loop-answer.answer-index c.answer-item.result c.args.text.now.items c.loop-answer.text.items _ c.loop-answer-test.true
      c.answer-item.is c.loop-answer.invariant.1
      (c.in_ok-push_answer.ensures.text c.args.sender.now.name c.loop-answer.invariant.0),
)
