-- Two lists of sources with no name in common, as those of two shards of a fleet: the outcome of both from those of
-- each.
use Rattle.std.specs.Prelude.{◌≡◌, ◌⊎◌, ℕ, ◌+◌, List, ◌++◌, length, map, ⊤, Option, Some, Result, Ok, Err}
use Rattle.std.specs.List.{Contains}
use Rattle.audit_collect.specs.declared.arrival.Answer.{Answer}
use Rattle.audit_collect.specs.declared.fault.CollectFault.{CollectFault}
use Rattle.audit_collect.specs.declared.fault.CollectFault.TheVariants as collect
use Rattle.audit_collect.specs.declared.fault.Refused.{Refused}
use Rattle.audit_collect.specs.declared.fault.Refused.TheVariants as refused
use Rattle.audit_collect.specs.declared.fault.Unfinished.{Unfinished}
use Rattle.audit_collect.specs.declared.fault.Unfinished.TheVariants.{Open, Gap}
use Rattle.audit_collect.specs.declared.report.Report.{Report}
use Rattle.audit_collect.specs.declared.report.SenderReport.{SenderReport}
use Rattle.audit_files.specs.Feeding.{Ahead}
use Rattle.audit_run.specs.declared.fault.AuditFault.{AuditFault}
use Rattle.audit_run.specs.declared.fault.AuditFault.TheVariants.{Sender, Collect, NoThread, Memory, TooManyParts}
use Rattle.audit_run.specs.declared.message.Names.{Names}
use Rattle.audit_run.specs.IsAuditResult.{IsOutcome, IsResult}
use Rattle.audit_run.specs.Parts.{Stated}
use Rattle.audit_run.specs.Roster.{roster}

-- no name is in both lists
abbrev pub AreDisjoint : List (List ℕ) → List (List ℕ) → Type 0
AreDisjoint first second = (name : List ℕ) → Contains first name → Contains second name → ⊥

-- two lists of sources, by their names, with none in common; the first list has one state for each source
pub record AreShards (first second : List (List ℕ)) (states : List Stated) : Type 0 where
  pub apart : AreDisjoint first second
  pub stated : length states ≡ length first

-- in the roster of both, the senders of the second list follow those of the first: so in an answer, a row and a fault
-- of the second list, the index of a sender is greater by the number of senders of the first
abbrev pub answer_after : ℕ → Answer → Answer
answer_after senders answer = record answer { sender = senders + answer.sender }

abbrev pub row_after : ℕ → SenderReport → SenderReport
row_after senders row = record row { answers = map (answer_after senders) row.answers }

abbrev pub refused_after : ℕ → Refused → Refused
refused_after senders (refused.Stranger sender) = refused.Stranger (senders + sender)
refused_after senders (refused.ZeroNumber sender) = refused.ZeroNumber (senders + sender)
refused_after senders (refused.Double sender number) = refused.Double (senders + sender) number
refused_after senders (refused.ClosedTwice sender) = refused.ClosedTwice (senders + sender)
refused_after senders (refused.PastClose sender number) = refused.PastClose (senders + sender) number
refused_after senders refused.Memory = refused.Memory

abbrev pub unfinished_after : ℕ → Unfinished → Unfinished
unfinished_after senders (Open sender) = Open (senders + sender)
unfinished_after senders (Gap sender number) = Gap (senders + sender) number

abbrev pub collected_after : ℕ → CollectFault → CollectFault
collected_after senders (collect.Roster why) = collect.Roster why
collected_after senders (collect.Refused why) = collect.Refused (refused_after senders why)
collected_after senders (collect.Unfinished what) = collect.Unfinished (unfinished_after senders what)

-- a refused source is identified by its sender's name and its number among the sources of that name: both stay as they
-- are
abbrev pub fault_after : ℕ → AuditFault → AuditFault
fault_after senders (Sender name part fault) = Sender name part fault
fault_after senders (Collect why) = Collect (collected_after senders why)
fault_after senders NoThread = NoThread
fault_after senders Memory = Memory
fault_after senders TooManyParts = TooManyParts

-- the rows of the first report, followed by those of the second
abbrev pub joined_report : Report → Report → Report
joined_report first second = record { senders = first.senders ++ map (row_after (length first.senders)) second.senders }

-- the report of both is joined from a report of each
pub record IsJoined (names : Names) (first second : List (List ℕ)) (states more : List Stated) (whole : Report) : Type 0 where
  pub report : Report
  pub other : Report
  pub of_first : IsOutcome names first states (Ok report)
  pub of_second : IsOutcome names second more (Ok other)
  pub is : whole ≡ joined_report report other

-- the fault of both is one of the first list, or one of the second
abbrev pub IsOfEither : Names → List (List ℕ) → List (List ℕ) → List Stated → List Stated → AuditFault → Type 0
IsOfEither names first second states more fault =
    IsOutcome names first states (Err fault)
    ⊎ ((own : AuditFault) × IsOutcome names second more (Err own) × (fault ≡ fault_after (length (roster first)) own))

-- the names of sources, each given as a name and the bytes ahead of its reader
abbrev pub names_of_sources : List (List ℕ × Ahead) → List (List ℕ)
names_of_sources sources = map (λ source. source.0) sources

-- the bytes that the readers of the sources report
abbrev pub told_of : List (List ℕ × Ahead) → List (Option Ahead)
told_of sources = map (λ source. Some source.1) sources

-- an audit of these sources, each given as a name and the bytes ahead of its reader, may return this result in some run
-- of its threads
abbrev pub MayReturn : Names → List (List ℕ × Ahead) → Result Report AuditFault → Type 0
MayReturn names sources result = IsResult names (names_of_sources sources) (told_of sources) result

-- the fault is of no source: an allocation or a thread was refused, or there are too many sources or senders
abbrev pub IsNoneOfSources : AuditFault → Type 0
IsNoneOfSources (Sender name part fault) = ⊥
IsNoneOfSources (Collect (collect.Roster why)) = ⊤
IsNoneOfSources (Collect (collect.Refused why)) = ⊥
IsNoneOfSources (Collect (collect.Unfinished what)) = ⊥
IsNoneOfSources NoThread = ⊤
IsNoneOfSources Memory = ⊤
IsNoneOfSources TooManyParts = ⊤
