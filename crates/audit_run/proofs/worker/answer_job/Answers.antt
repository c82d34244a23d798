use Rattle.std.proofs.Common.{rules}
use Rattle.audit_run.proofs.worker.answer_job.Goals as goal

pub returns : goal.returns
returns g c = search rules
