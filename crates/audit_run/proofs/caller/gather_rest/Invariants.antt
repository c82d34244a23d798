use Rattle.std.specs.Prelude.{[]}
use Rattle.audit_run.specs.Body.Gathered.{Conducts}
use Rattle.audit_run.proofs.caller.gather_rest.Given as goal

abbrev pub invariant-loop : goal.invariant-loop
invariant-loop g l = Conducts l.fn.pass l.fn.gathering [] l.pass l.gathering
