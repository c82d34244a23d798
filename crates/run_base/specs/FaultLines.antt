-- The text that is printed for a fault.
use Rattle.std.specs.Prelude.{ℕ, List, [], ◌∷◌, ◌++◌, Option, None, Some, codes, decimal}
use Rattle.std.specs.declared.alloc.AllocError.{AllocError}
use Rattle.audit_files.specs.declared.sink.WriteFault.{WriteFault}
use Rattle.run_base.specs.FaultTexts.{cannot_read, cannot_read_since, hint_at_fault, load_fault_text, no_memory}
use Rattle.run_base.specs.declared.fault.OpenFault.{OpenFault}
use Rattle.run_base.specs.declared.fault.OpenFault.TheVariants as opens
use Rattle.run_base.specs.declared.fault.PolicyFault.{PolicyFault}
use Rattle.run_base.specs.declared.fault.PolicyFault.TheVariants as policies

-- a text on a line of its own, behind the name of a program
abbrev pub error_line : List ℕ → List ℕ → List ℕ
error_line program text = program ++ codes ": " ++ text ++ 10 ∷ []

-- the line of out of memory, which is also printed if allocation for the text of another fault failed
abbrev pub memory_line : List ℕ → List ℕ
memory_line program = error_line program no_memory

abbrev pub memory_printed : List ℕ → AllocError → List ℕ
memory_printed program fault = memory_line program

-- the line of a write that failed after this number of bytes
abbrev pub write_line : List ℕ → ℕ → List ℕ
write_line program written = error_line program (codes "write failed after " ++ decimal written ++ codes " bytes")

abbrev pub write_printed : List ℕ → WriteFault → List ℕ
write_printed program fault = write_line program fault.written

-- the errors of a policy are printed as `check` prints them, any other fault as a line
abbrev pub policy_printed : List ℕ → PolicyFault → List ℕ
policy_printed program (policies.CannotRead path why) = error_line program (cannot_read path)
policy_printed program (policies.TooLong path) = error_line program (path ++ codes ": text too long")
policy_printed program policies.TooManyFiles = error_line program (codes "too many files")
policy_printed program (policies.Refused read fault text) = error_line program (load_fault_text read fault)
policy_printed program (policies.Errors lines) = lines.items
policy_printed program policies.Memory = memory_line program

abbrev pub open_printed : List ℕ → OpenFault → List ℕ
open_printed program (opens.CannotRead path why) = error_line program (cannot_read path)
open_printed program opens.Memory = memory_line program

-- the line of a hint, if there is one
abbrev pub hint_line : List ℕ → Option (List ℕ) → List ℕ
hint_line program None = []
hint_line program (Some hint) = error_line program (codes "hint: " ++ hint)

-- the same texts as a program prints them that says why a path cannot be read, and hints at what a fault often comes from

abbrev pub policy_explained : List ℕ → PolicyFault → List ℕ
policy_explained program (policies.CannotRead path why) = error_line program (cannot_read_since path why)
policy_explained program (policies.TooLong path) = policy_printed program (policies.TooLong path)
policy_explained program policies.TooManyFiles = policy_printed program policies.TooManyFiles
policy_explained program (policies.Refused read fault text) =
    policy_printed program (policies.Refused read fault text) ++ hint_line program (hint_at_fault text fault)
policy_explained program (policies.Errors lines) = policy_printed program (policies.Errors lines)
policy_explained program policies.Memory = policy_printed program policies.Memory

abbrev pub open_explained : List ℕ → OpenFault → List ℕ
open_explained program (opens.CannotRead path why) = error_line program (cannot_read_since path why)
open_explained program opens.Memory = open_printed program opens.Memory
