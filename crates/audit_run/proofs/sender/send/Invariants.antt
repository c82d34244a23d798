use Rattle.std.specs.Prelude.{◌≡◌, map, reverse, vec_len}
use Rattle.audit_run.specs.declared.message.Job.TheVariants.{Ask}
use Rattle.audit_run.specs.Body.Work.{putting_jobs}
use Rattle.audit_run.proofs.sender.send.Given as goal

abbrev pub invariant-loop-request : goal.invariant-loop-request
invariant-loop-request g l = putting_jobs l.pass (map (λ r. Ask l.sender r) (reverse l.left.items)) ≡ putting_jobs
    l.fn.pass (map (λ r. Ask l.sender r) l.fn.requests.list)

abbrev pub decreases-loop-request : goal.decreases-loop-request
decreases-loop-request g l = vec_len l.left
