use Rattle.review_program.proofs.ChangeSteps.{verdicts-of}
use Rattle.review_program.proofs.changes.judged.Goals as goal

pub report_table-requires : goal.report_table-requires
report_table-requires g c = verdicts-of c.args.pair.now.old.policy c.args.pair.now.directory _ _ _ c.in_ok-report.ensures.report
