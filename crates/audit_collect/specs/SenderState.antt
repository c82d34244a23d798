-- The state of a collector, and how a message that is offered changes it.
use Rattle.std.specs.Prelude.{◌≡◌, ℕ, zero, suc, Bool, false, List, [], ◌∷◌, Option, None, Some, Result, Ok, Err}
use Rattle.std.specs.Prelude.{nat_lt, if◌then◌else◌, slice_get, max, map, is_some, ◌==◌, ◌⊎◌}
use Rattle.std.specs.Ordering.{nat_cmp}
use Rattle.std.specs.FinMap.{FinMap, empty, insert, contains_key, entries}
use Rattle.std.specs.Option.{option_map_or}
use Rattle.audit_collect.specs.declared.arrival.Answer.{Answer}
use Rattle.audit_collect.specs.declared.arrival.Arrival.{Arrival}
use Rattle.audit_collect.specs.declared.arrival.Arrival.TheVariants.{Reply, Close}
use Rattle.audit_collect.specs.declared.fault.Refused.{Refused}
use Rattle.audit_collect.specs.declared.fault.Refused.TheVariants.{Stranger, ZeroNumber, Double, ClosedTwice, PastClose, Memory}

-- the state of one sender: its name, the accepted answers by number, and the count of its accepted
-- close mark
pub record SenderState : Type 0 where
  pub name : List ℕ
  pub answers : FinMap nat_cmp Answer
  pub close : Option ℕ

-- the state of a sender from which nothing has arrived
abbrev pub empty_sender : List ℕ → SenderState
empty_sender name = record { name = name; answers = empty; close = None }

-- the state of a roster from which nothing has arrived
abbrev pub start : List (List ℕ) → List SenderState
start names = map empty_sender names

-- the greatest number of a list of entries, 0 if it is empty
abbrev pub greatest_key : List (ℕ × Answer) → ℕ
greatest_key [] = 0
greatest_key (e ∷ es) = max e.0 (greatest_key es)

-- the greatest accepted number of a sender, 0 if none was accepted
abbrev pub greatest_number : SenderState → ℕ
greatest_number h = greatest_key (entries h.answers)

-- whether a number exceeds the count of the close mark
abbrev pub exceeds_close : Option ℕ → ℕ → Bool
exceeds_close close number = option_map_or (λ count. nat_lt count number) close false

-- the refusal of a sender's reply, if it is refused: the first that applies, in this order
abbrev pub reply_refusal : SenderState → ℕ → ℕ → Option Refused
reply_refusal h sender number =
    if number == 0 then Some (ZeroNumber sender)
    else if contains_key h.answers number then Some (Double sender number)
    else if exceeds_close h.close number then Some (PastClose sender number)
    else None

-- the refusal of a sender's close mark, if it is refused
abbrev pub close_refusal : SenderState → ℕ → ℕ → Option Refused
close_refusal h sender count =
    if is_some h.close then Some (ClosedTwice sender)
    else if nat_lt count (greatest_number h) then Some (PastClose sender (greatest_number h))
    else None

-- the refusal of an arrival, if it is refused: first of all, if its sender is not in the roster
abbrev pub refusal : List SenderState → Arrival → Option Refused
refusal held (Reply answer) =
    option_map_or (λ h. reply_refusal h answer.sender answer.request.number) (slice_get held answer.sender) (Some (Stranger answer.sender))
refusal held (Close sender count) =
    option_map_or (λ h. close_refusal h sender count) (slice_get held sender) (Some (Stranger sender))

-- the state with one more reply
abbrev pub with_reply : Answer → SenderState → SenderState
with_reply answer h = record { name = h.name; answers = insert h.answers answer.request.number answer; close = h.close }

-- the state with this close mark
abbrev pub with_close : ℕ → SenderState → SenderState
with_close count h = record { name = h.name; answers = h.answers; close = Some count }

-- the list, changed at one index
abbrev pub changed_at : {A : Type 0} → ℕ → (A → A) → List A → List A
changed_at i f [] = []
changed_at zero f (x ∷ xs) = f x ∷ xs
changed_at (suc i) f (x ∷ xs) = x ∷ changed_at i f xs

-- the state with one more arrival
abbrev pub with_arrival : List SenderState → Arrival → List SenderState
with_arrival held (Reply answer) = changed_at answer.sender (with_reply answer) held
with_arrival held (Close sender count) = changed_at sender (with_close count) held

-- the refusal of a first arrival, if there is one, before the result of the rest
abbrev pub after_first : Option Refused → Result (List SenderState) Refused → Result (List SenderState) Refused
after_first None rest = rest
after_first (Some refused) rest = Err refused

-- the state after all arrivals, or the refusal of the first that is refused
abbrev pub after : List SenderState → List Arrival → Result (List SenderState) Refused
after held [] = Ok held
after held (arrival ∷ arrivals) = after_first (refusal held arrival) (after (with_arrival held arrival) arrivals)

abbrev pub IsReply : Arrival → Type 0
IsReply (Reply answer) = Unit {0}
IsReply (Close sender count) = ⊥

-- the refusal with which an arrival is returned: the first that applies, or out of memory for a
-- reply that is not refused
abbrev pub IsReturned : List SenderState → Arrival → Refused → Type 0
IsReturned held arrival refused = (refusal held arrival ≡ Some refused)
    ⊎ ((refusal held arrival ≡ None) × IsReply arrival × (refused ≡ Memory))
