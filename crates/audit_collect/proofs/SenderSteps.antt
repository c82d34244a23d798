-- Steps of a sender keep its invariant.
use Rattle.std.proofs.Common.{◌≡◌, ℕ, zero, suc, ◌+◌, ◌^◌, ◌<◌, ◌≤◌, Bool, true, false, cond, List, [], length}
use Rattle.std.proofs.Common.{Option, None, Some, nat_eq, max, refl, sym, ap, ◌∙◌, arith, is_some, slice_get, ◌==◌}
use Rattle.std.proofs.Common.{if◌then◌else◌, nat_lt, inl, inr, add-one}
use Rattle.std.proofs.lemmas.Bool.{false≢true, cases_lt}
use Rattle.std.specs.Option.{option_or}
use Rattle.audit_collect.specs.declared.report.SenderReport.{SenderReport}
use Rattle.std.proofs.lemmas.Bool.Decides.{nat_tests}
use Rattle.std.specs.FinMap.{get, insert, entries, empty, contains_key, values}
use Rattle.sudo_base.proofs.Options.{some_of, option_or-some}
use Rattle.audit_collect.specs.declared.arrival.Answer.{Answer}
use Rattle.audit_collect.specs.declared.sender.Sender.TheInside.{Inside}
use Rattle.audit_collect.specs.SenderState.{greatest_key, SenderState, reply_refusal, exceeds_close}
use Rattle.audit_collect.specs.declared.fault.Refused.{Refused}
use Rattle.audit_collect.specs.declared.fault.Refused.TheVariants.{ZeroNumber, Double, PastClose}
use Rattle.audit_collect.specs.Finished.{IsFinished, IsReleased, IsLeastMissing, sender_report}
use Rattle.audit_collect.specs.Body.Answers.{answers_of, answer_at, released_at, waiting_at}
use Rattle.audit_collect.specs.Body.Sender.{SenderInvariant, state_of_fields}
use Rattle.audit_collect.proofs.Lookups.{get-answers_of, released_at-past, contains_key-released}
use Rattle.audit_collect.proofs.Lookups.{contains_key-waiting, answers_of-inserted, answers_of-same, slice_get_within}
use Rattle.audit_collect.proofs.Greatest.{entries-empty, le-greatest, greatest-insert, values-answers_of}

none_unless : {A : Type 0} (o : Option A) → (is_some o ≡ true → ⊥) → o ≡ None
none_unless None h = refl
none_unless (Some x) h = absurd (h refl)

pub answers_of-nothing : (xs : List Answer) (es : List (ℕ × Answer)) → xs ≡ [] → es ≡ [] → answers_of xs es ≡ empty
answers_of-nothing xs es e f = λ j. answers_of (e j) (f j)

pub SenderInvariant-nothing : (s : Inside) → s.released.items ≡ [] → s.waiting.entries ≡ [] → s.greatest ≡ 0
    → s.close ≡ None → SenderInvariant s
SenderInvariant-nothing s e f g h =
    record {
      beyond = λ n _. ap (λ es. waiting_at es n) f;
      fits = λ n _. ap (λ es. waiting_at es n) f;
      greatest_is = g ∙ sym (ap (λ m. greatest_key (entries m)) (answers_of-nothing _ _ e f) ∙ ap greatest_key entries-empty);
      within = λ count k. absurd (grind arith);
    }

-- with the answer of the next number at the end of the list, and those that follow it no longer
-- among the entries
module _ (s t : Inside) (n : ℕ) (a : Answer) (name : t.name ≡ s.name) (close : t.close ≡ s.close) (top : t.greatest ≡ max s.greatest n)
    (one_more : (q : ℕ) → answer_at t.released.items t.waiting.entries q ≡ cond (nat_eq q n) (Some a)
    (answer_at s.released.items s.waiting.entries q))
    (not_past : (count : ℕ) → s.close ≡ Some count → n ≤ count) (kept : SenderInvariant s) where
  pub answers-more : answers_of t.released.items t.waiting.entries ≡ insert (answers_of s.released.items s.waiting.entries) n a
  answers-more = answers_of-inserted s.released.items t.released.items s.waiting.entries t.waiting.entries n a one_more

  pub state_of_fields-more : state_of_fields t ≡ record {
    name = s.name;
    answers = insert (answers_of s.released.items s.waiting.entries) n a;
    close = s.close;
  }
  state_of_fields-more = λ j. record { name = name j; answers = answers-more j; close = close j }

  pub SenderInvariant-more : ((q : ℕ) → q ≤ length t.released.items + 1 → waiting_at t.waiting.entries q ≡ None)
      → ((q : ℕ) → 2 ^ 32 ≤ q → waiting_at t.waiting.entries q ≡ None) → SenderInvariant t
  SenderInvariant-more beyond fits =
      record {
        beyond = beyond;
        fits = fits;
        greatest_is =
            let e = ap (λ m. greatest_key (entries m)) answers-more ∙ greatest-insert (answers_of s.released.items s.waiting.entries) n a in
            let k = kept.greatest_is in
            top ∙ omega arith;
        within = λ count is.
            let h = kept.within count (sym close ∙ is) in
            let k = not_past count (sym close ∙ is) in
            omega arith;
      }

module _ (s : Inside) (kept : SenderInvariant s) where
  -- the number after the released list was not accepted
  pub get-next : (n : ℕ) → n ≡ length s.released.items + 1 → get (state_of_fields s).answers n ≡ None
  get-next n e =
      get-answers_of s.released.items s.waiting.entries n ∙ ap (λ o. option_or o (waiting_at s.waiting.entries n))
      (released_at-past s.released.items n (omega arith))
      ∙ kept.beyond n (omega arith)

  pub least_missing : (count n : ℕ) → s.close ≡ Some count → length s.released.items < count
      → n ≡ length s.released.items + 1 → IsLeastMissing (state_of_fields s) n
  least_missing count n closed less e =
      record {
        count = count;
        closed = closed;
        from_one = omega arith;
        within = omega arith;
        missing = get-next n e;
        least = λ k h l. contains_key-released s.released.items s.waiting.entries k h (omega arith);
      }

  -- an accepted number is at least 1 and at most the greatest
  accepted_within : (n : ℕ) → contains_key (state_of_fields s).answers n ≡ true → (1 ≤ n) × (n ≤ s.greatest)
  accepted_within zero h = absurd
      (false≢true (sym (ap is_some (get-answers_of s.released.items s.waiting.entries zero ∙ kept.beyond zero (omega arith))) ∙ h))
  accepted_within (suc i) h =
      let found = some_of (get (state_of_fields s).answers (suc i)) h in
      let below = le-greatest (state_of_fields s).answers (suc i) found.0 found.1 in
      let top = kept.greatest_is in
      (omega arith, omega arith)

  pub finished : (count : ℕ) → s.close ≡ Some count → count ≤ length s.released.items → IsFinished (state_of_fields s)
  finished count closed h =
      record {
        count = count;
        closed = closed;
        numbers = λ n. (
          λ there. let k = accepted_within n there in let w = kept.within count closed in (k.0, omega arith),
          λ k. contains_key-released s.released.items s.waiting.entries n k.0 (omega arith),
        );
      }

  pub can_release : IsReleased (state_of_fields s) s.released.items
  can_release =
      record {
        accepted = λ i h. rw (add-one i) (sym (get-answers_of s.released.items s.waiting.entries (suc i)
            ∙ option_or-some (slice_get s.released.items i) (waiting_at s.waiting.entries (suc i))
            (slice_get_within s.released.items i h)));
        greatest = get-next _ refl;
      }

  -- a finished sender has no waiting answers
  nothing_waits : IsFinished (state_of_fields s) → (n : ℕ) → waiting_at s.waiting.entries n ≡ None
  nothing_waits done n = elim (cases_lt (length s.released.items) n) [
    | inl h ↦ none_unless (waiting_at s.waiting.entries n) (λ there.
        let both = (done.numbers n).0 (contains_key-waiting s.released.items s.waiting.entries n h ∙ there) in
        let counted : n ≤ done.count = both.1 in
        let next : 1 ≤ length s.released.items + 1 = omega arith in
        let up_to : length s.released.items + 1 ≤ done.count = omega arith in
        false≢true (sym (ap is_some (get-next (length s.released.items + 1) refl))
        ∙ (done.numbers (length s.released.items + 1)).1 (next, up_to)))
    | inr h ↦ kept.beyond n (omega arith)
  ]

  pub sender_report-finished : IsFinished (state_of_fields s)
      → ◌≡◌ {A = SenderReport} (record { name = s.name; answers = s.released.items }) (sender_report (state_of_fields s))
  sender_report-finished done =
      let same : (q : ℕ) → answer_at s.released.items s.waiting.entries q ≡ answer_at s.released.items [] q =
      λ q. ap (option_or (released_at s.released.items q)) (nothing_waits done q) in
      let e = ap values (answers_of-same s.released.items s.released.items [] s.waiting.entries same)
      ∙ values-answers_of s.released.items in
      λ j. record { name = s.name; answers = sym e j }

-- what it means that a reply is not refused
pub record IsNew (h : SenderState) (number : ℕ) : Type 0 where
  pub from_one : 1 ≤ number
  pub absent : contains_key h.answers number ≡ false
  pub not_past : (count : ℕ) → h.close ≡ Some count → number ≤ count

pub IsNew-from_refusal : (h : SenderState) (sender number : ℕ) → reply_refusal h sender number ≡ None → IsNew h number
IsNew-from_refusal h sender number e = by (number == 0) refl (contains_key h.answers number) refl (exceeds_close h.close number) refl e
  where
    by : (none : Bool) → (number == 0) ≡ none → (there : Bool) → contains_key h.answers number ≡ there → (past : Bool)
        → exceeds_close h.close number ≡ past
        → ◌≡◌ {A = Option Refused} (if none then Some (ZeroNumber sender) else if there then Some
        (Double sender number) else if past then Some (PastClose sender number) else None) None → IsNew h number
    by true p there q past r e = absurd (cc)
    by false p true q past r e = absurd (cc)
    by false p false q true r e = absurd (cc)
    by false p false q false r e =
        record {
          from_one = grind (arith, nat_tests);
          absent = q;
          not_past = λ count is. let k : nat_lt count number ≡ false = sym (ap (λ o. exceeds_close o number) is)
              ∙ r in grind (arith, nat_tests);
        }

-- and of a number that is new: it is past the released list
pub new_not_released : (s : Inside) (number : ℕ) → IsNew (state_of_fields s) number → length s.released.items < number
new_not_released s number new = elim (cases_lt (length s.released.items) number) [
  | inl h ↦ h
  | inr h ↦ absurd (false≢true (sym new.absent ∙ contains_key-released s.released.items s.waiting.entries number new.from_one h))
]
