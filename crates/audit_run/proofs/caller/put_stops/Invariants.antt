use Rattle.std.specs.Prelude.{replicate}
use Rattle.audit_run.specs.Body.Gathered.{Conducts}
use Rattle.audit_run.specs.declared.message.Job.TheVariants as job
use Rattle.audit_run.proofs.caller.put_stops.Given as goal

abbrev pub invariant-loop-stopped : goal.invariant-loop-stopped
invariant-loop-stopped g l = Conducts l.fn.pass l.fn.gathering (replicate l._stopped job.Stop) l.pass l.gathering
