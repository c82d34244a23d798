use Rattle.std.specs.Prelude.{◌≡◌, ◌<◌, ℕ, Some, slice_get}
use Rattle.audit_files.specs.declared.fault.FileFault.TheVariants.{Memory}
use Rattle.audit_run.proofs.auditing.has_memory_fault.Given as goal

abbrev pub invariant-loop-index : goal.invariant-loop-index
invariant-loop-index l = (i : ℕ) → i < l.index → slice_get l.faults i ≡ Some (Some Memory) → ⊥
