-- The result of a collector on the gathered arrivals. Only the proofs of bodies use these
-- definitions.
use Rattle.std.specs.Prelude.{◌≡◌, ◌<◌, ℕ, ⊤, List, length, Option, Result, Ok, Err}
use Rattle.audit_collect.specs.Finished.{AllFinished, IsFirstMissing, report_of}
use Rattle.audit_collect.specs.SenderState.{SenderState}
use Rattle.audit_collect.specs.Roster.{most_senders}
use Rattle.audit_collect.specs.declared.fault.CollectFault.TheVariants as collect
use Rattle.audit_collect.specs.declared.fault.Refused.{Refused}
use Rattle.audit_collect.specs.declared.fault.Refused.TheVariants as refused
use Rattle.audit_collect.specs.declared.fault.RosterFault.TheVariants as roster_fault
use Rattle.audit_collect.specs.declared.report.Report.{Report}
use Rattle.audit_files.specs.declared.fault.FileFault.{FileFault}
use Rattle.audit_run.specs.declared.fault.AuditFault.{AuditFault}
use Rattle.audit_run.specs.declared.fault.AuditFault.TheVariants.{Sender, Collect, NoThread, Memory, TooManyParts}
use Rattle.audit_run.specs.IsAuditResult.{IsRefusedSource, NoneOutOfMemory, NoneRefused}

-- the fault of a roster of these senders
abbrev pub RefusesSenders : List (List ℕ) → AuditFault → Type 0
RefusesSenders senders (Collect (collect.Roster roster_fault.TooManySenders)) = most_senders < length senders
RefusesSenders senders (Collect (collect.Roster (roster_fault.SenderTwice name))) = ⊥
RefusesSenders senders (Collect (collect.Roster roster_fault.Memory)) = ⊥
RefusesSenders senders (Collect (collect.Refused why)) = ⊥
RefusesSenders senders (Collect (collect.Unfinished what)) = ⊥
RefusesSenders senders (Sender name part fault) = ⊥
RefusesSenders senders NoThread = ⊥
RefusesSenders senders Memory = ⊤
RefusesSenders senders TooManyParts = ⊥

-- the result after the threads ran; `faults` has the fault of each source that is refused, and
-- `comes` the state of a collector after all arrivals, or the refusal of the first that it refuses;
-- `Memory` comes before all else, then a refused source
abbrev pub Concludes : List (List ℕ) → List (Option FileFault) → Result (List SenderState) Refused → Result Report AuditFault → Type 0
Concludes names faults comes (Ok report) = NoneRefused faults × ((held : List SenderState) × (comes ≡ Ok held)
    × AllFinished held × (report ≡ report_of held))
Concludes names faults comes (Err (Sender name part fault)) =
    IsRefusedSource names faults name part fault × NoneOutOfMemory faults × (comes ≡ Err refused.Memory → ⊥)
Concludes names faults comes (Err (Collect (collect.Roster why))) = ⊥
Concludes names faults comes (Err (Collect (collect.Refused refused.Memory))) = ⊥
Concludes names faults comes (Err (Collect (collect.Refused (refused.Stranger sender)))) =
    NoneRefused faults × (comes ≡ Err (refused.Stranger sender))
Concludes names faults comes (Err (Collect (collect.Refused (refused.ZeroNumber sender)))) =
    NoneRefused faults × (comes ≡ Err (refused.ZeroNumber sender))
Concludes names faults comes (Err (Collect (collect.Refused (refused.Double sender number)))) =
    NoneRefused faults × (comes ≡ Err (refused.Double sender number))
Concludes names faults comes (Err (Collect (collect.Refused (refused.ClosedTwice sender)))) =
    NoneRefused faults × (comes ≡ Err (refused.ClosedTwice sender))
Concludes names faults comes (Err (Collect (collect.Refused (refused.PastClose sender number)))) =
    NoneRefused faults × (comes ≡ Err (refused.PastClose sender number))
Concludes names faults comes (Err (Collect (collect.Unfinished what))) =
    NoneRefused faults × ((held : List SenderState) × (comes ≡ Ok held) × IsFirstMissing held what)
Concludes names faults comes (Err NoThread) = ⊤
Concludes names faults comes (Err Memory) = ⊤
Concludes names faults comes (Err TooManyParts) = ⊥
