use Rattle.std.specs.Prelude.{◌≡◌}
use Rattle.audit_run.proofs.worker.take_trying.Given as goal

abbrev pub invariant-loop : goal.invariant-loop
invariant-loop g l = l.pass ≡ l.fn.pass
