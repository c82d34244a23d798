-- The exit status of a fault.
use Rattle.std.specs.Prelude.{ℕ}
use Rattle.std.specs.declared.alloc.AllocError.{AllocError}
use Rattle.audit_files.specs.declared.sink.WriteFault.{WriteFault}
use Rattle.run_base.specs.declared.fault.OpenFault.{OpenFault}
use Rattle.run_base.specs.declared.fault.PolicyFault.{PolicyFault}
use Rattle.run_base.specs.declared.fault.PolicyFault.TheVariants as policies

-- 1: the policy is refused or has errors. 4: reading, writing or memory failed.

abbrev pub policy_status : PolicyFault → ℕ
policy_status (policies.CannotRead path why) = 4
policy_status policies.Memory = 4
policy_status fault = 1

abbrev pub open_status : OpenFault → ℕ
open_status fault = 4

abbrev pub write_status : WriteFault → ℕ
write_status fault = 4

abbrev pub memory_status : AllocError → ℕ
memory_status fault = 4
