use Rattle.std.proofs.Common.{rules}
use Rattle.audit_run.proofs.worker.answer_request.Goals as goal

pub put_outcome_waiting-requires-clause-verdict : goal.put_outcome_waiting-requires-clause-verdict
put_outcome_waiting-requires-clause-verdict g c = search rules

pub returns : goal.returns
returns g c = search rules
