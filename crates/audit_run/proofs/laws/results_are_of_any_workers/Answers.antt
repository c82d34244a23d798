use Rattle.audit_run.proofs.AnyWorkers.{of_any_workers}
use Rattle.audit_run.proofs.laws.results_are_of_any_workers.Goals as goal

pub returns : goal.returns
returns c = λ names sources readable_bytes workers old result only empty is.
    of_any_workers names sources readable_bytes workers old only empty result is
