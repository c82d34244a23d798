-- The fault of an audit, with the names of senders in place of their indices in the roster.
use Rattle.std.specs.Prelude.{ℕ, Bool, List, [], Option, None, Some, slice_index_or, count_by, bytes_eq, nat_lt}
use Rattle.std.specs.Prelude.{if◌then◌else◌}
use Rattle.audit_collect.specs.declared.fault.CollectFault.TheVariants as collects
use Rattle.audit_collect.specs.declared.fault.Refused.{Refused}
use Rattle.audit_collect.specs.declared.fault.Refused.TheVariants as refusals
use Rattle.audit_collect.specs.declared.fault.RosterFault.TheVariants as rosters
use Rattle.audit_collect.specs.declared.fault.Unfinished.{Unfinished}
use Rattle.audit_collect.specs.declared.fault.Unfinished.TheVariants as unfinished
use Rattle.audit_run.specs.Roster.{roster}
use Rattle.audit_run.specs.declared.fault.AuditFault.{AuditFault}
use Rattle.audit_run.specs.declared.fault.AuditFault.TheVariants as audits
use Rattle.audit_commands.specs.declared.requests_fault.RequestsFault.{RequestsFault}
use Rattle.audit_commands.specs.declared.requests_fault.RequestsFault.TheVariants as requests

-- the sender with this index in the roster of the sources' names
abbrev pub sender_named : List (List ℕ) → ℕ → List ℕ
sender_named names sender = slice_index_or (roster names) sender []

-- at least two sources have the name
abbrev pub has_parts : List (List ℕ) → List ℕ → Bool
has_parts names name = nat_lt 1 (count_by (λ other. bytes_eq other name) names)

-- the number of the part, if the sender has several
abbrev pub part_named : List (List ℕ) → List ℕ → ℕ → Option ℕ
part_named names name part = if has_parts names name then Some part else None

-- the collector's refusal; of sources it refuses no stranger and no number 0, and memory is no fault of theirs
abbrev pub refusal_named : List (List ℕ) → Refused → Option RequestsFault
refusal_named names (refusals.Double sender number) = Some (requests.Twice (sender_named names sender) number)
refusal_named names (refusals.ClosedTwice sender) = Some (requests.ClosedTwice (sender_named names sender))
refusal_named names (refusals.PastClose sender number) = Some (requests.PastClose (sender_named names sender) number)
refusal_named names refused = None

-- what the sources lack
abbrev pub lack_named : List (List ℕ) → Unfinished → RequestsFault
lack_named names (unfinished.Open sender) = requests.NotClosed (sender_named names sender)
lack_named names (unfinished.Gap sender number) = requests.Missing (sender_named names sender) number

-- the fault of an audit of sources with these names; none for those that it does not return, and for memory
abbrev pub fault_named : List (List ℕ) → AuditFault → Option RequestsFault
fault_named names (audits.Sender name part fault) = Some (requests.File name (part_named names name part) fault)
fault_named names (audits.Collect (collects.Refused refused)) = refusal_named names refused
fault_named names (audits.Collect (collects.Unfinished lack)) = Some (lack_named names lack)
fault_named names (audits.Collect (collects.Roster rosters.TooManySenders)) = Some requests.TooManySenders
fault_named names audits.TooManyParts = Some requests.TooManyParts
fault_named names audits.NoThread = Some requests.NoThread
fault_named names fault = None
