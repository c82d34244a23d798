-- The faults of the sources of an audit, when they are whole, and their report.
use Rattle.std.specs.Prelude.{◌≡◌, ℕ, ◌+◌, ◌<◌, ◌≤◌, List, [], ◌∷◌, Some, slice_get, length, count_by, nat_lt}
use Rattle.std.specs.List.{Contains}
use Rattle.sudo_match.specs.declared.request.Request.{Request}
use Rattle.audit_collect.specs.declared.arrival.Answer.{Answer}
use Rattle.audit_collect.specs.declared.fault.Refused.{Refused}
use Rattle.audit_collect.specs.declared.fault.Refused.TheVariants.{ClosedTwice, Double, PastClose}
use Rattle.audit_collect.specs.declared.fault.Unfinished.{Unfinished}
use Rattle.audit_collect.specs.declared.fault.Unfinished.TheVariants.{Open, Gap}
use Rattle.audit_collect.specs.declared.report.Report.{Report}
use Rattle.audit_collect.specs.declared.report.SenderReport.{SenderReport}
use Rattle.audit_run.specs.declared.message.Names.{Names}
use Rattle.audit_run.specs.Names.{answer_to}
use Rattle.audit_run.specs.Parts.{Stated}
use Rattle.audit_run.specs.Asked.{asked_of, counts_of, has_number, requests_stated, times_asked}

-- the sender has one close mark, and over all its sources the numbers 1 to its count, each once,
-- and no other
pub record IsWholeSender (sender : ℕ) (parts : List (ℕ × Stated)) : Type 0 where
  pub count : ℕ
  pub closed : counts_of sender parts ≡ count ∷ []
  pub once : (number : ℕ) → 1 ≤ number → number ≤ count → times_asked sender number parts ≡ 1
  pub no_other : (number : ℕ) → (1 ≤ number → number ≤ count → ⊥) → times_asked sender number parts ≡ 0

-- each of this many senders is whole
abbrev pub AreWhole : ℕ → List (ℕ × Stated) → Type 0
AreWhole senders parts = (sender : ℕ) → sender < senders → IsWholeSender sender parts

-- the sources have the fault that the collector refuses: a number twice of one sender, two close
-- marks, or a number past one; they have no stranger and no number 0, and out of memory is no fault
-- of theirs
abbrev pub HaveRefused : List (ℕ × Stated) → Refused → Type 0
HaveRefused parts (Double sender number) = 2 ≤ times_asked sender number parts
HaveRefused parts (ClosedTwice sender) = 2 ≤ length (counts_of sender parts)
HaveRefused parts (PastClose sender number) =
    (1 ≤ times_asked sender number parts) × (1 ≤ count_by (λ count. nat_lt count number) (counts_of sender parts))
HaveRefused parts refused = ⊥

-- the sender has one close mark, and this is the least number from 1 to its count that it does not
-- ask for
pub record IsGap (sender number : ℕ) (parts : List (ℕ × Stated)) : Type 0 where
  pub count : ℕ
  pub closed : counts_of sender parts ≡ count ∷ []
  pub from_one : 1 ≤ number
  pub within : number ≤ count
  pub missing : times_asked sender number parts ≡ 0
  pub least : (smaller : ℕ) → 1 ≤ smaller → smaller < number → 1 ≤ times_asked sender smaller parts

-- the sources of one of this many senders lack a close mark, or a number up to its count
abbrev pub Lack : ℕ → List (ℕ × Stated) → Unfinished → Type 0
Lack senders parts (Open sender) = (sender < senders) × (counts_of sender parts ≡ [])
Lack senders parts (Gap sender number) = (sender < senders) × IsGap sender number parts

-- the row of the sender with this index in the roster: its name, and as many answers as its one
-- close mark counts; the answer at index i is to a request of the sender with the number i + 1, and
-- has the verdict of the policy and the directory
pub record IsRow (names : Names) (roster : List (List ℕ)) (parts : List (ℕ × Stated)) (sender : ℕ) (row : SenderReport) : Type 0 where
  pub name : slice_get roster sender ≡ Some row.name
  pub closed : counts_of sender parts ≡ length row.answers ∷ []
  pub answers : (index : ℕ) (answer : Answer) → slice_get row.answers index ≡ Some answer
      → (request : Request) × Contains (asked_of sender parts) request × (request.number ≡ index + 1)
      × (answer ≡ answer_to names sender request)

-- the report of the sources: a row for each sender, in the order of the roster
pub record IsReport (names : Names) (roster : List (List ℕ)) (parts : List (ℕ × Stated)) (report : Report) : Type 0 where
  pub one_each : length report.senders ≡ length roster
  pub rows : (sender : ℕ) (row : SenderReport) → slice_get report.senders sender ≡ Some row → IsRow names roster parts sender row

-- the source is the sender's, and asks for the number
pub record Asks (sender number : ℕ) (part : ℕ × Stated) : Type 0 where
  pub of : part.0 ≡ sender
  pub asks : 1 ≤ count_by (has_number number) (requests_stated part.1)

-- two different sources of the sender ask for the number
pub record AskInTwo (sender number : ℕ) (parts : List (ℕ × Stated)) : Type 0 where
  pub first : ℕ
  pub second : ℕ
  pub apart : first < second
  pub first_part : ℕ × Stated
  pub second_part : ℕ × Stated
  pub first_there : slice_get parts first ≡ Some first_part
  pub second_there : slice_get parts second ≡ Some second_part
  pub first_asks : Asks sender number first_part
  pub second_asks : Asks sender number second_part
