use Rattle.std.proofs.Common.{rules}
use Rattle.review_commands.proofs.Refusals.{report_without_workers}
use Rattle.review_commands.proofs.words.asked_report.Goals as goal

pub returns-in_default-workers-clause-nothing : goal.returns-in_default-workers-clause-nothing
returns-in_default-workers-clause-nothing c other = report_without_workers _ (c.workers.ensures.none (search rules))
