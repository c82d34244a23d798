-- A number that is asked for twice is asked for by two sources.
use Rattle.std.proofs.Common.{◌≡◌, ◌≢◌, ◌⊎◌, ℕ, suc, ◌+◌, ◌≤◌, Bool, true, false, cond, ◌==◌, List, [], ◌∷◌, Some}
use Rattle.std.proofs.Common.{slice_get, count_by, All, ap, ◌∙◌, refl, inl, inr, arith}
use Rattle.std.proofs.lemmas.List.Elements.{All-head, All-tail}
use Rattle.audit_collect.proofs.HeldLaw.{tested, zero_or_some}
use Rattle.audit_collect.proofs.Members.{count_by-append, count_by-cons}
use Rattle.audit_files.specs.Requests.{AreRising, RiseAbove}
use Rattle.sudo_match.specs.declared.request.Request.{Request}
use Rattle.audit_run.specs.Asked.{asked_of, has_number, values_of_sender, requests_stated, times_asked}
use Rattle.audit_run.specs.Outcome.{AskInTwo, Asks}
use Rattle.audit_run.specs.Parts.{Stated}

-- a source states numbers that rise
abbrev pub Rises : ℕ × Stated → Type 0
Rises part = AreRising (requests_stated part.1)

pub untested : (a b : ℕ) → a ≢ b → (a == b) ≡ false
untested a b h = by (a == b) refl
  where
    by : (t : Bool) → (a == b) ≡ t → (a == b) ≡ false
    by true e = absurd (h (tested a b e))
    by false e = e

rise_none : (m : ℕ) (requests : List Request) → RiseAbove m requests → (n : ℕ) → n ≤ m → count_by (has_number n) requests ≡ 0
rise_none m [] rise n low = refl
rise_none m (r ∷ requests) rise n low =
    let above = rise.0 in
    let other = untested r.number n (λ e. omega (arith, e, above, low)) in
    let one = count_by-cons (has_number n) r requests ∙ ap (λ b. cond b 1 0 + count_by (has_number n) requests) other in
    let rest = rise_none r.number requests rise.1 n (omega (arith, above, low)) in
    omega (arith, one, rest)

rise_once : (m : ℕ) (requests : List Request) → RiseAbove m requests → (n : ℕ) → count_by (has_number n) requests ≤ 1
rise_once m [] rise n = omega arith
rise_once m (r ∷ requests) rise n = by (r.number == n) refl (rise_once r.number requests rise.1 n)
  where
    by : (b : Bool) → (r.number == n) ≡ b → count_by (has_number n) requests ≤ 1 → count_by (has_number n) (r ∷ requests) ≤ 1
    by true e once =
        let same = tested r.number n e in
        let one = count_by-cons (has_number n) r requests ∙ ap (λ b. cond b 1 0 + count_by (has_number n) requests) e in
        let rest = rise_none r.number requests rise.1 n (omega (arith, same)) in
        omega (arith, one, rest)
    by false e once =
        let one = count_by-cons (has_number n) r requests ∙ ap (λ b. cond b 1 0 + count_by (has_number n) requests) e in
        omega (arith, one, once)

-- what one source asks
part-once : (s n : ℕ) (part : ℕ × Stated) → Rises part → count_by (has_number n) (values_of_sender s requests_stated part) ≤ 1
part-once s n part rise = by (part.0 == s)
  where
    by : (b : Bool) → count_by (has_number n) (cond b (requests_stated part.1) []) ≤ 1
    by true = rise_once 0 (requests_stated part.1) rise n
    by false = omega arith

part-no-zero : (s : ℕ) (part : ℕ × Stated) → Rises part → count_by (has_number 0) (values_of_sender s requests_stated part) ≡ 0
part-no-zero s part rise = by (part.0 == s)
  where
    by : (b : Bool) → count_by (has_number 0) (cond b (requests_stated part.1) []) ≡ 0
    by true = rise_none 0 (requests_stated part.1) rise 0 (omega arith)
    by false = refl

part-asks : (s n : ℕ) (part : ℕ × Stated) → 1 ≤ count_by (has_number n) (values_of_sender s requests_stated part) → Asks s n part
part-asks s n part h = by (part.0 == s) refl h
  where
    by : (b : Bool) → (part.0 == s) ≡ b → 1 ≤ count_by (has_number n) (cond b (requests_stated part.1) []) → Asks s n part
    by true own asks = record { of = tested part.0 s own; asks = asks }
    by false other none = absurd (omega (arith, none))

pub here_and_rest : (s n : ℕ) (part : ℕ × Stated) (parts : List (ℕ × Stated))
    → times_asked s n (part ∷ parts) ≡ count_by (has_number n) (values_of_sender s requests_stated part) + times_asked s n parts
here_and_rest s n part parts = count_by-append (has_number n) (values_of_sender s requests_stated part) (asked_of s parts)

pub no_zero : (s : ℕ) (parts : List (ℕ × Stated)) → All Rises parts → times_asked s 0 parts ≡ 0
no_zero s [] rise = refl
no_zero s (part ∷ parts) rise =
    let sum = here_and_rest s 0 part parts in
    let here = part-no-zero s part (All-head Rises part parts rise) in
    let rest = no_zero s parts (All-tail Rises part parts rise) in
    omega (arith, sum, here, rest)

-- one source that asks the number
record OneAsks (s n : ℕ) (parts : List (ℕ × Stated)) : Type 0 where
  pub index : ℕ
  pub part : ℕ × Stated
  pub there : slice_get parts index ≡ Some part
  pub asks : Asks s n part

one_asks : (s n : ℕ) (parts : List (ℕ × Stated)) → 1 ≤ times_asked s n parts → OneAsks s n parts
one_asks s n [] h = absurd (omega (arith, h))
one_asks s n (part ∷ parts) h = by (zero_or_some (count_by (has_number n) (values_of_sender s requests_stated part))) (one_asks s n parts)
  where
    by : (count_by (has_number n) (values_of_sender s requests_stated part) ≡ 0)
        ⊎ (1 ≤ count_by (has_number n) (values_of_sender s requests_stated part))
        → (1 ≤ times_asked s n parts → OneAsks s n parts) → OneAsks s n (part ∷ parts)
    by (inl none) rest =
        let sum = here_and_rest s n part parts in
        let found = rest (omega (arith, sum, none, h)) in
        record { index = suc found.index; part = found.part; there = found.there; asks = found.asks }
    by (inr some) rest = record { index = 0; part = part; there = refl; asks = part-asks s n part some }

pub ask_in_two : (s n : ℕ) (parts : List (ℕ × Stated)) → All Rises parts → 2 ≤ times_asked s n parts → AskInTwo s n parts
ask_in_two s n [] rise h = absurd (omega (arith, h))
ask_in_two s n (part ∷ parts) rise h =
    by (zero_or_some (count_by (has_number n) (values_of_sender s requests_stated part)))
    (ask_in_two s n parts (All-tail Rises part parts rise))
  where
    by : (count_by (has_number n) (values_of_sender s requests_stated part) ≡ 0)
        ⊎ (1 ≤ count_by (has_number n) (values_of_sender s requests_stated part))
        → (2 ≤ times_asked s n parts → AskInTwo s n parts) → AskInTwo s n (part ∷ parts)
    by (inl none) rest =
        let sum = here_and_rest s n part parts in
        let found = rest (omega (arith, sum, none, h)) in
        let apart = found.apart in
        record {
          first = suc found.first;
          second = suc found.second;
          apart = omega (arith, apart);
          first_part = found.first_part;
          second_part = found.second_part;
          first_there = found.first_there;
          second_there = found.second_there;
          first_asks = found.first_asks;
          second_asks = found.second_asks;
        }
    by (inr some) rest =
        let sum = here_and_rest s n part parts in
        let once = part-once s n part (All-head Rises part parts rise) in
        let found = one_asks s n parts (omega (arith, sum, once, h)) in
        record {
          first = 0;
          second = suc found.index;
          apart = omega arith;
          first_part = part;
          second_part = found.part;
          first_there = refl;
          second_there = found.there;
          first_asks = part-asks s n part some;
          second_asks = found.asks;
        }
