-- The end of a run of a program.
use Rattle.std.specs.Prelude.{◌≡◌, ◌<◌, ◌⊎◌, ℕ, List, length, take, Option, Result, Ok, Err}
use Rattle.std.specs.Io.KnownBytes.{Appends}
use Rattle.run_base.specs.FaultLines.{memory_line, write_line}
use Rattle.run_base.specs.declared.run_output.RunOutput.{RunOutput}

-- what a program prints for the faults of its runs: the name of the program, and for each fault the exit status and the
-- text that is printed
pub record Notices (F : Type 0) : Type 0 where
  pub program : List ℕ
  pub status : F → ℕ
  pub printed : F → List ℕ

abbrev pub notices : {F : Type 0} → (F → ℕ) → (List ℕ → F → List ℕ) → List ℕ → Notices F
notices status printed program = record { program = program; status = status; printed = printed program }

-- a writer before and after: the bytes written to it, if it specifies them, and how many of its
-- writes have failed
pub record WriterStates : Type 0 where
  pub before : Option (List ℕ)
  pub after : Option (List ℕ)
  pub failed_before : ℕ
  pub failed_after : ℕ

abbrev pub writer_states : {W : Type 0} → (W → Option (List ℕ)) → (W → ℕ) → W → W → WriterStates
writer_states taken failed old new = record { before = taken old; after = taken new; failed_before = failed old; failed_after = failed new }

-- no write failed
abbrev pub IsWell : WriterStates → Type 0
IsWell writer = writer.failed_after ≡ writer.failed_before

-- the writer received these bytes and nothing else
abbrev pub HasWritten : WriterStates → List ℕ → Type 0
HasWritten writer bytes = Appends writer.before writer.after bytes

abbrev pub HasWrittenNothing : WriterStates → Type 0
HasWrittenNothing writer = writer.after ≡ writer.before

-- the status, and the text that the writer received, if no write failed
abbrev pub PrintsLine : ℕ → List ℕ → ℕ → WriterStates → Type 0
PrintsLine own line status err = (status ≡ own) × (IsWell err → HasWritten err line)

-- this text is printed, with this status; or, if allocation for it failed, the program's line of out of memory, with
-- status 4
abbrev pub PrintsOrNoMemory : List ℕ → ℕ → List ℕ → ℕ → WriterStates → Type 0
PrintsOrNoMemory program own line status err = PrintsLine own line status err ⊎ PrintsLine 4 (memory_line program) status err

-- a fault is printed: its own text, with its own status; or the line of out of memory
abbrev pub IsFaultPrinted : {F : Type 0} → Notices F → F → ℕ → WriterStates → Type 0
IsFaultPrinted told fault status err = PrintsOrNoMemory told.program (told.status fault) (told.printed fault) status err

-- the run printed, whole and alone, a text that it may print with this status
pub record Prints (Good : List ℕ → ℕ → Type 0) (status : ℕ) (out err : WriterStates) : Type 0 where
  pub text : List ℕ
  pub good : Good text status
  pub well : IsWell out
  pub got : HasWritten out text
  pub quiet : HasWrittenNothing err

-- a fault of this kind ended the run, and nothing was printed on `out`
pub record EndsInFault {F : Type 0} (told : Notices F) (Bad : F → Type 0) (status : ℕ) (out err : WriterStates) : Type 0 where
  pub fault : F
  pub bad : Bad fault
  pub well : IsWell out
  pub nothing : HasWrittenNothing out
  pub printed_fault : PrintsOrNoMemory told.program (told.status fault) (told.printed fault) status err

-- a write failed: of a text that the run may print, `out` received the first bytes, as many as the
-- line on `err` says and not all
pub record FailsToWrite (program : List ℕ) (Good : List ℕ → ℕ → Type 0) (status : ℕ) (out err : WriterStates) : Type 0 where
  pub text : List ℕ
  pub meant : ℕ
  pub good : Good text meant
  pub count : ℕ
  pub part : count < length text
  pub got : HasWritten out (take count text)
  pub failed : IsWell out → ⊥
  pub printed_fault : PrintsOrNoMemory program 4 (write_line program count) status err

-- the end of a run that may print such a text with such a status, and may end with such a fault
abbrev pub Ends : {F : Type 0} → Notices F → (List ℕ → ℕ → Type 0) → (F → Type 0) → ℕ → WriterStates → WriterStates → Type 0
Ends told Good Bad status out err = Prints Good status out err
    ⊎ (EndsInFault told Bad status out err ⊎ FailsToWrite told.program Good status out err)

-- the result of a run, before it is printed, is this text, with this status
abbrev pub IsPrinted : {F : Type 0} → Result RunOutput F → List ℕ → ℕ → Type 0
IsPrinted ended text status = (printed : RunOutput) × (ended ≡ Ok printed) × (text ≡ printed.text.items) × (status ≡ printed.status)

-- the result of a run, before it is printed, is this fault
abbrev pub IsFault : {F : Type 0} → Result RunOutput F → F → Type 0
IsFault ended fault = ended ≡ Err fault
