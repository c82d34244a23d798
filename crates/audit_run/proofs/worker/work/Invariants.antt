use Rattle.std.specs.Prelude.{◌≡◌, List}
use Rattle.audit_run.specs.declared.message.Job.{Job}
use Rattle.audit_run.specs.Names.{names_under}
use Rattle.audit_run.specs.Body.Work.{after_work}
use Rattle.audit_run.proofs.worker.work.Given as goal

abbrev pub invariant-loop : goal.invariant-loop
invariant-loop g l = (jobs : List Job) × (l.pass ≡ after_work (names_under l.shared.policy.now l.shared.directory.now) l.fn.pass jobs)
