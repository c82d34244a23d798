-- The result of an audit, and its effect on the pass.
use Rattle.std.specs.Prelude.{◌≡◌, ℕ, ◌<◌, ◌≤◌, ◌++◌, ⊤, List, map, length, slice_get, Option, Some, None, Result, Ok}
use Rattle.std.specs.Prelude.{Err, IsPermutation, replicate}
use Rattle.audit_collect.specs.Complete.{IsReportOf}
use Rattle.audit_collect.specs.Roster.{most_senders}
use Rattle.audit_collect.specs.declared.fault.CollectFault.TheVariants as collect
use Rattle.audit_collect.specs.declared.fault.RosterFault.TheVariants as roster_fault
use Rattle.audit_collect.specs.declared.report.Report.{Report}
use Rattle.audit_files.specs.Feeding.{Ahead}
use Rattle.audit_files.specs.declared.fault.FileFault.{FileFault}
use Rattle.audit_files.specs.declared.fault.FileFault.TheVariants as file_fault
use Rattle.audit_files.specs.Faults.{IsNotOutOfMemory}
use Rattle.audit_run.specs.declared.message.Job.{Job}
use Rattle.audit_run.specs.declared.message.Job.TheVariants.{Stop}
use Rattle.audit_run.specs.declared.message.Names.{Names}
use Rattle.audit_run.specs.declared.message.Outcome.{Outcome}
use Rattle.audit_run.specs.Names.{answer}
use Rattle.audit_run.specs.Passes.{PassView, IsEmpty, IsOnlyPass}
use Rattle.audit_run.specs.declared.fault.AuditFault.{AuditFault}
use Rattle.audit_run.specs.declared.fault.AuditFault.TheVariants.{Sender, Collect, NoThread, Memory, TooManyParts}
use Rattle.audit_run.specs.Arrivals.{arrivals_of}
use Rattle.audit_run.specs.Outcome.{AreWhole, HaveRefused, IsReport, Lack}
use Rattle.audit_run.specs.Parts.{AreRead, HavePut, Stated, faults_of, parts_by_owner}
use Rattle.audit_run.specs.Roster.{part_number, roster}

-- the most sources that an audit may have
abbrev pub most_parts : ℕ
most_parts = 256

-- no more sources, nor senders, than an audit may have
abbrev pub AreFew : List (List ℕ) → Type 0
AreFew sources = (length sources ≤ most_parts) × (length (roster sources) ≤ most_senders)

-- no source is refused
abbrev pub NoneRefused : List (Option FileFault) → Type 0
NoneRefused faults = (index : ℕ) (fault : FileFault) → slice_get faults index ≡ Some (Some fault) → ⊥

-- the first source that is refused
pub record IsFirstFileFault (faults : List (Option FileFault)) (index : ℕ) (fault : FileFault) : Type 0 where
  pub there : slice_get faults index ≡ Some (Some fault)
  pub earlier : (i : ℕ) → i < index → slice_get faults i ≡ Some None

-- this is the first source that is refused: its name, its number among the sources of that name,
-- and its fault
abbrev pub IsRefusedSource : List (List ℕ) → List (Option FileFault) → List ℕ → ℕ → FileFault → Type 0
IsRefusedSource sources faults name part fault =
    (index : ℕ) × IsFirstFileFault faults index fault × IsNotOutOfMemory fault
    × (slice_get sources index ≡ Some name) × (part ≡ part_number sources index name)

-- allocation failed for no source
abbrev pub NoneOutOfMemory : List (Option FileFault) → Type 0
NoneOutOfMemory faults = (index : ℕ) → slice_get faults index ≡ Some (Some file_fault.Memory) → ⊥

-- `Memory` comes before `Sender`: a source is refused only if allocation failed for no source
abbrev pub MemoryComesFirst : List (Option FileFault) → Result Report AuditFault → Type 0
MemoryComesFirst faults (Err (Sender name part fault)) = NoneOutOfMemory faults
MemoryComesFirst faults result = ⊤

-- the outcome for sources with this content: the first refused source, in their order; otherwise the
-- report, if each sender is whole over all its sources; otherwise what a collector refuses or misses;
-- `NoThread` and `Memory` are not constrained
abbrev pub IsOutcome : Names → List (List ℕ) → List Stated → Result Report AuditFault → Type 0
IsOutcome names sources states (Ok report) =
    NoneRefused (faults_of states) × AreWhole (length (roster sources)) (parts_by_owner sources states)
    × IsReport names (roster sources) (parts_by_owner sources states) report
IsOutcome names sources states (Err (Sender name part fault)) = IsRefusedSource sources (faults_of states) name part fault
IsOutcome names sources states (Err (Collect (collect.Refused why))) = NoneRefused (faults_of states)
    × HaveRefused (parts_by_owner sources states) why
IsOutcome names sources states (Err (Collect (collect.Unfinished what))) = NoneRefused (faults_of states)
    × Lack (length (roster sources)) (parts_by_owner sources states) what
IsOutcome names sources states (Err NoThread) = ⊤
IsOutcome names sources states (Err Memory) = ⊤
IsOutcome names sources states (Err fault) = ⊥

-- the result of threads that ran on sources with these names and these bytes ahead: the outcome of
-- their content
pub record IsRunResult (names : Names) (sources : List (List ℕ)) (readable_bytes : List (Option Ahead))
    (result : Result Report AuditFault) : Type 0 where
  pub few : AreFew sources
  pub states : List Stated
  pub read : AreRead readable_bytes states
  pub outcome : IsOutcome names sources states result
  pub memory_first : MemoryComesFirst (faults_of states) result

-- the result of an audit of these sources: too many of them, or of their senders, are refused before
-- any thread starts; `NoThread` is returned only if they are few
abbrev pub IsResult : Names → List (List ℕ) → List (Option Ahead) → Result Report AuditFault → Type 0
IsResult names sources readable_bytes (Err TooManyParts) = most_parts < length sources
IsResult names sources readable_bytes (Err (Collect (collect.Roster roster_fault.TooManySenders))) =
    (length sources ≤ most_parts) × (most_senders < length (roster sources))
IsResult names sources readable_bytes (Err NoThread) = AreFew sources
IsResult names sources readable_bytes (Err Memory) = ⊤
IsResult names sources readable_bytes result = IsRunResult names sources readable_bytes result

-- a report is that of the arrivals that the workers put, which are complete
abbrev pub IsReportOfArrived : List (List ℕ) → List Outcome → Result Report AuditFault → Type 0
IsReportOfArrived sources outcomes (Ok report) = IsReportOf (roster sources) (arrivals_of outcomes) report
IsReportOfArrived sources outcomes (Err fault) = ⊤

-- what the pass of a run has gained: the answers to all jobs that sources with this content put, one
-- `Stop` for each worker among them, in some order; it is whole again, with nothing left
pub record HasGained (names : Names) (sources : List (List ℕ)) (states : List Stated) (workers : ℕ)
    (old new : PassView) (result : Result Report AuditFault) : Type 0 where
  pub put : List Job
  pub have_put : HavePut (parts_by_owner sources states) put
  pub outcomes : List Outcome
  pub gained : new.outcomes_taken ≡ old.outcomes_taken ++ outcomes
  pub all : IsPermutation (map (answer names) (replicate workers Stop ++ put)) outcomes
  pub arrived : IsReportOfArrived sources outcomes result
  pub whole : IsOnlyPass new
  pub same_handoff : new.handoff ≡ old.handoff
  pub same_names : new.names ≡ old.names
  pub empty : IsEmpty new

-- how an audit with this result leaves its pass: as it was, if it started no thread; with what the
-- run gained; unspecified after `NoThread` and `Memory`
abbrev pub LeavesPass : (names : Names) (sources : List (List ℕ)) (readable_bytes : List (Option Ahead)) → ℕ → PassView → PassView
    → (result : Result Report AuditFault) → IsResult names sources readable_bytes result → Type 0
LeavesPass names sources readable_bytes workers old new (Err TooManyParts) is = new ≡ old
LeavesPass names sources readable_bytes workers old new (Err (Collect (collect.Roster roster_fault.TooManySenders))) is = new ≡ old
LeavesPass names sources readable_bytes workers old new (Err NoThread) is = ⊤
LeavesPass names sources readable_bytes workers old new (Err Memory) is = ⊤
LeavesPass names sources readable_bytes workers old new result is = HasGained names sources is.states workers old new result

-- the result of an audit, and its effect on the pass
abbrev pub IsAuditResult : Names → List (List ℕ) → List (Option Ahead) → ℕ → PassView → PassView → Result Report AuditFault → Type 0
IsAuditResult names sources readable_bytes workers old new result =
    (is : IsResult names sources readable_bytes result) × LeavesPass names sources readable_bytes workers old new result is
