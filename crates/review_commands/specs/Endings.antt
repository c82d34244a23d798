-- The end of a run that prints a notice beside its text.
use Rattle.std.specs.Prelude.{◌≡◌, ◌⊎◌, ◌+◌, ℕ, List, Result, Ok}
use Rattle.run_base.specs.Endings.{EndsInFault, FailsToWrite, HasWritten, IsWell, Notices, PrintsOrNoMemory, WriterStates}
use Rattle.run_base.specs.FaultLines.{memory_line, write_line}
use Rattle.run_base.specs.declared.run_output.RunOutput.{RunOutput}
use Rattle.review_grants.specs.Writing.{IsStopped, failures_at}
use Rattle.review_grants.specs.declared.writing.Stopped.{Stopped}
use Rattle.review_grants.specs.declared.writing.Stopped.TheVariants as stops
use Rattle.review_commands.specs.declared.ending.NotedOutput.{NotedOutput}

-- what a run may print: a text, the notice behind it, and the exit status
abbrev pub Printing : Type 1
Printing = List ℕ → List ℕ → ℕ → Type 0

-- the run printed a text, whole, on `out`, and then a notice on `err`, and ended with a status; it may print the two with it
pub record PrintsNoted (Good : Printing) (status : ℕ) (out err : WriterStates) : Type 0 where
  pub text : List ℕ
  pub notice : List ℕ
  pub good : Good text notice status
  pub well : IsWell out
  pub got : HasWritten out text
  pub noted : IsWell err → HasWritten err notice

-- the text is one that the run may print, with some notice, and this status
abbrev pub IsGoodText : Printing → List ℕ → ℕ → Type 0
IsGoodText Good text status = (notice : List ℕ) × Good text notice status

-- the end of a run that may print such a text with such a notice, and may end with such a fault
abbrev pub EndsNoted : {F : Type 0} → Notices F → Printing → (F → Type 0) → ℕ → WriterStates → WriterStates → Type 0
EndsNoted told Good Bad status out err = PrintsNoted Good status out err
    ⊎ (EndsInFault told Bad status out err ⊎ FailsToWrite told.program (IsGoodText Good) status out err)

-- the line of a write that failed, which says how many bytes were written before; and that of memory that failed
abbrev pub stop_line : List ℕ → Stopped → List ℕ
stop_line program (stops.Write fault) = write_line program fault.written
stop_line program stops.Memory = memory_line program

-- the run wrote a text as it was made, and stopped: `out` received the first bytes of a text that the run may print, and
-- `err` the line that says why
pub record StopsPartWay (program : List ℕ) (Good : Printing) (status : ℕ) (out err : WriterStates) : Type 0 where
  pub stop : Stopped
  pub text : List ℕ
  pub meant : ℕ
  pub good : IsGoodText Good text meant
  pub stopped : IsStopped out.before out.after text stop
  pub failed : out.failed_after ≡ out.failed_before + failures_at stop
  pub printed_stop : PrintsOrNoMemory program 4 (stop_line program stop) status err

-- the end of a run that writes such a text as it is made, and such a notice behind it, and may end with such a fault before
-- it writes
abbrev pub EndsAsWritten : {F : Type 0} → Notices F → Printing → (F → Type 0) → ℕ → WriterStates → WriterStates → Type 0
EndsAsWritten told Good Bad status out err = PrintsNoted Good status out err
    ⊎ (EndsInFault told Bad status out err ⊎ StopsPartWay told.program Good status out err)

-- this is the text, the notice and the status
abbrev pub AreNoted : NotedOutput → Printing
AreNoted noted text notice status =
    (text ≡ noted.text.items) × (notice ≡ noted.notice.items) × (status ≡ noted.status)

-- the result of a run, before it is printed, is this text with this notice and this status
abbrev pub IsNoted : {F : Type 0} → Result NotedOutput F → Printing
IsNoted ended text notice status = (noted : NotedOutput) × (ended ≡ Ok noted) × AreNoted noted text notice status

-- this is a table, printed with a notice
pub record IsNotedTable {F : Type 0} (table : Result RunOutput F) (notice : List ℕ) (p : NotedOutput) : Type 0 where
  pub output : RunOutput
  pub is_output : table ≡ Ok output
  pub text_is : p.text.items ≡ output.text.items
  pub status_is : p.status ≡ output.status
  pub notice_is : p.notice.items ≡ notice
