-- The faults of a file.
use Rattle.std.specs.Prelude.{ℕ, ⊤, Option, Some, None, Result, Ok, Err}
use Rattle.audit_files.specs.declared.fault.FileFault.{FileFault}
use Rattle.audit_files.specs.declared.fault.FileFault.TheVariants.{Memory, Read}

-- a fault of the file or of reading it: every fault but out of memory
abbrev pub IsNotOutOfMemory : FileFault → Type 0
IsNotOutOfMemory Memory = ⊥
IsNotOutOfMemory fault = ⊤

-- a fault, or else this value
abbrev pub unless : {T : Type 0} → Option FileFault → T → Result T FileFault
unless None x = Ok x
unless (Some e) x = Err e

-- the number of failed reads that the fault reports: 1 for `Read`, else 0
abbrev pub failures_in : FileFault → ℕ
failures_in Read = 1
failures_in fault = 0

abbrev pub read_failures : {T : Type 0} → Result T FileFault → ℕ
read_failures (Ok x) = 0
read_failures (Err e) = failures_in e
