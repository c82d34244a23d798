use Rattle.std.specs.Prelude.{◌≡◌}
use Rattle.audit_trials.proofs.queue_trials.filled.Given as goal

abbrev pub invariant-loop-count : goal.invariant-loop-count
invariant-loop-count g l = l.pass.handoff ≡ l.handoff
