use Rattle.std.specs.Prelude.{◌≡◌, ◌<◌, ℕ, Some, None, slice_get}
use Rattle.audit_run.proofs.auditing.first_fault.Given as goal

abbrev pub invariant-loop-index : goal.invariant-loop-index
invariant-loop-index l = (i : ℕ) → i < l.index → slice_get l.faults i ≡ Some None
