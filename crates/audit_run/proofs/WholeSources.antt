-- Whole sources have no fault, and one report.
use Rattle.std.proofs.Common.{◌≡◌, ◌⊎◌, ℕ, zero, suc, ◌+◌, ◌≤◌, ◌<◌, Bool, true, false, cond, ◌==◌, List, [], ◌∷◌, ◌++◌, length}
use Rattle.std.proofs.Common.{flat_map, Some, slice_get, count_by, nat_lt, All, sym, ap, subst, ◌∙◌, refl, inl, inr, arith}
use Rattle.std.proofs.lemmas.Bool.Decides.{nat_tests}
use Rattle.std.proofs.lemmas.List.Elements.{All-head, All-tail}
use Rattle.std.proofs.lemmas.Option.{same_Some, slice_get_within}
use Rattle.sudo_match.specs.declared.request.Request.{Request}
use Rattle.audit_collect.specs.declared.arrival.Answer.{Answer}
use Rattle.audit_collect.specs.declared.fault.Refused.{Refused}
use Rattle.audit_collect.specs.declared.fault.Refused.TheVariants as refused
use Rattle.audit_collect.specs.declared.fault.Unfinished.{Unfinished}
use Rattle.audit_collect.specs.declared.fault.Unfinished.TheVariants.{Open, Gap}
use Rattle.audit_collect.specs.declared.report.Report.{Report}
use Rattle.audit_collect.specs.declared.report.SenderReport.{SenderReport}
use Rattle.audit_collect.proofs.HeldLaw.{self_tested}
use Rattle.audit_collect.proofs.Members.{Among, Among-Contains, count_by-cons, count_by_member}
use Rattle.audit_run.specs.declared.message.Names.{Names}
use Rattle.audit_run.specs.Names.{answer_to}
use Rattle.audit_run.specs.Asked.{asked_of, counts_in, counts_of, has_number, values_of_sender, requests_stated, times_asked}
use Rattle.audit_run.specs.Outcome.{AreWhole, HaveRefused, IsReport, IsRow, IsWholeSender, Lack}
use Rattle.audit_run.specs.Parts.{Stated}
use Rattle.audit_run.proofs.Refusals.{IsOwned}
use Rattle.audit_run.proofs.Twice.{untested}
use Rattle.sudo_policy.proofs.FoundLemmas.{same_lists}

-- a sender past the roster has no source
pub none_past : {X : Type 0} (f : Stated → List X) (senders s : ℕ) (parts : List (ℕ × Stated))
    → All (IsOwned senders) parts → senders ≤ s → flat_map (values_of_sender s f) parts ≡ []
none_past f senders s [] all past = refl
none_past {X} f senders s (part ∷ parts) all past =
    let owner = All-head (IsOwned senders) part parts all in
    let other = untested part.0 s (λ e. omega (arith, e, owner, past)) in
    ap (λ b. cond b (f part.1) [] ++ flat_map (values_of_sender s f) parts) other
    ∙ none_past f senders s parts (All-tail (IsOwned senders) part parts all) past

pub within_or_past : (s n : ℕ) → (s < n) ⊎ (n ≤ s)
within_or_past s zero = inr (omega arith)
within_or_past zero (suc n) = inl (omega arith)
within_or_past (suc s) (suc n) = elim (within_or_past s n) [ inl less ↦ inl (omega (arith, less)) | inr past ↦ inr (omega (arith, past)) ]

-- a whole sender asks a number once at most
once_at_most : (s n : ℕ) (parts : List (ℕ × Stated)) → IsWholeSender s parts → times_asked s n parts ≤ 1
once_at_most s zero parts whole = let none = whole.no_other 0 (λ low high. omega (arith, low)) in omega (arith, none)
once_at_most s (suc n) parts whole = elim (within_or_past whole.count (suc n)) [
  | inl past ↦ let none = whole.no_other (suc n) (λ low high. omega (arith, past, high)) in omega (arith, none)
  | inr within ↦ let once = whole.once (suc n) (omega arith) within in omega (arith, once)
]

one_below : (count n : ℕ) → 1 ≤ count_by (λ c. nat_lt c n) (count ∷ []) → count < n
one_below count n h = by (nat_lt count n) refl
  where
    by : (b : Bool) → nat_lt count n ≡ b → count < n
    by true e = grind (arith, nat_tests)
    by false e =
        let none = count_by-cons (λ c. nat_lt c n) count [] ∙ ap (λ b. cond b 1 0 + count_by (λ c. nat_lt c n) []) e in
        absurd (omega (arith, none, h))

-- whole sources have nothing that a collector refuses
pub whole_not_refused : (senders : ℕ) (parts : List (ℕ × Stated)) (why : Refused) → All (IsOwned senders) parts
    → AreWhole senders parts → HaveRefused parts why → ⊥
whole_not_refused senders parts (refused.Double s n) all whole h = elim (within_or_past s senders) [
  | inl inside ↦ let once = once_at_most s n parts (whole s inside) in omega (arith, once, h)
  | inr past ↦ let none = ap (count_by (has_number n)) (none_past requests_stated senders s parts all past) in omega (arith, none, h)
]
whole_not_refused senders parts (refused.ClosedTwice s) all whole h = elim (within_or_past s senders) [
  | inl inside ↦ let one = ap length (whole s inside).closed in omega (arith, one, h)
  | inr past ↦ let none = ap length (none_past counts_in senders s parts all past) in omega (arith, none, h)
]
whole_not_refused senders parts (refused.PastClose s n) all whole h = elim (within_or_past s senders) [
  | inl inside ↦
      let sender = whole s inside in
      let asked = h.0 in
      let below = subst (λ l. 1 ≤ count_by (λ c. nat_lt c n) l) sender.closed h.1 in
      let past = one_below sender.count n below in
      let none = sender.no_other n (λ low high. omega (arith, past, high)) in
      omega (arith, none, asked)
  | inr past ↦
      let asked = h.0 in
      let none = ap (count_by (has_number n)) (none_past requests_stated senders s parts all past) in
      omega (arith, none, asked)
]
whole_not_refused senders parts (refused.Stranger s) all whole h = h
whole_not_refused senders parts (refused.ZeroNumber s) all whole h = h
whole_not_refused senders parts refused.Memory all whole h = h

-- and lack nothing
pub whole_not_lacking : (senders : ℕ) (parts : List (ℕ × Stated)) (what : Unfinished) → AreWhole senders parts → Lack senders parts what → ⊥
whole_not_lacking senders parts (Open s) whole h =
    let one = ap length (whole s h.0).closed in
    let none = ap length h.1 in
    omega (arith, one, none)
whole_not_lacking senders parts (Gap s n) whole h =
    let sender = whole s h.0 in
    let gap = h.1 in
    let counts = ap length (sym sender.closed ∙ gap.closed) in
    let same : sender.count ≡ gap.count = let both : sender.count ∷ [] ≡ gap.count ∷ [] = sym sender.closed ∙ gap.closed in cc in
    let from = gap.from_one in
    let within = gap.within in
    let once = sender.once n from (omega (arith, same, within)) in
    let missing = gap.missing in
    omega (arith, once, missing)

-- a number that is asked once is asked by one request
one_request : (n : ℕ) (requests : List Request) (q r : Request) → count_by (has_number n) requests ≤ 1
    → Among q requests → Among r requests → q.number ≡ n → r.number ≡ n → q ≡ r
one_request n [] q r once mq mr nq nr = absurd mq
one_request n (x ∷ requests) q r once (inl eq) (inl er) nq nr = sym eq ∙ er
one_request n (x ∷ requests) q r once (inl eq) (inr mr) nq nr =
    let first : (x.number == n) ≡ true = ap (λ (y : Request). y.number == n) eq ∙ ap (λ t. t == n) nq ∙ self_tested n in
    let counted = count_by-cons (has_number n) x requests ∙ ap (λ b. cond b 1 0 + count_by (has_number n) requests) first in
    let more = count_by_member (has_number n) r requests mr (ap (λ t. t == n) nr ∙ self_tested n) in
    absurd (omega (arith, counted, more, once))
one_request n (x ∷ requests) q r once (inr mq) (inl er) nq nr =
    let first : (x.number == n) ≡ true = ap (λ (y : Request). y.number == n) er ∙ ap (λ t. t == n) nr ∙ self_tested n in
    let counted = count_by-cons (has_number n) x requests ∙ ap (λ b. cond b 1 0 + count_by (has_number n) requests) first in
    let more = count_by_member (has_number n) q requests mq (ap (λ t. t == n) nq ∙ self_tested n) in
    absurd (omega (arith, counted, more, once))
one_request n (x ∷ requests) q r once (inr mq) (inr mr) nq nr =
    let counted = count_by-cons (has_number n) x requests in
    one_request n requests q r (omega (arith, counted, once)) mq mr nq nr

module _ (names : Names) (roster : List (List ℕ)) (parts : List (ℕ × Stated)) (whole : AreWhole (length roster) parts) where
  same_answer : (s i : ℕ) (v w : SenderReport) → IsWholeSender s parts → IsRow names roster parts s v
      → IsRow names roster parts s w → (a b : Answer) → slice_get v.answers i ≡ Some a → slice_get w.answers i ≡ Some b → a ≡ b
  same_answer s i v w sender is_v is_w a b at bt =
      let (q, q_has, q_number, a_is) = is_v.answers i a at in
      let (r, r_has, r_number, b_is) = is_w.answers i b bt in
      let same = one_request (i + 1) (asked_of s parts) q r (once_at_most s (i + 1) parts sender)
      (Among-Contains q (asked_of s parts) q_has) (Among-Contains r (asked_of s parts) r_has) q_number r_number in
      a_is ∙ ap (answer_to names s) same ∙ sym b_is

  same_row : (s : ℕ) (v w : SenderReport) → s < length roster → IsRow names roster parts s v → IsRow names roster parts s w → v ≡ w
  same_row s v w inside is_v is_w =
      let name : v.name ≡ w.name = same_Some v.name w.name (sym is_v.name ∙ is_w.name) in
      let one : length v.answers ∷ [] ≡ length w.answers ∷ [] = sym is_v.closed ∙ is_w.closed in
      let long : length v.answers ≡ length w.answers = cc in
      let answers = same_lists v.answers w.answers long (λ i. same_answer s i v w (whole s inside) is_v is_w) in
      λ i. record { name = name i; answers = answers i }

  -- whole sources have one report
  pub one_report : (r t : Report) → IsReport names roster parts r → IsReport names roster parts t → r ≡ t
  one_report r t is_r is_t =
      let long = is_r.one_each ∙ sym is_t.one_each in
      let senders = same_lists r.senders t.senders long (λ s v w at bt.
      let inside = slice_get_within r.senders s v at in
      let few = is_r.one_each in
      same_row s v w (omega (arith, inside, few)) (is_r.rows s v at) (is_t.rows s w bt)) in
      λ i. record { senders = senders i }
