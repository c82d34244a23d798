-- What two lists of sources that have no name in common are refused for, and what they lack.
use Rattle.std.proofs.Common.{◌≡◌, ◌⊎◌, ℕ, ◌+◌, ◌≤◌, ◌<◌, List, [], ◌++◌, length, map, Option, Some}
use Rattle.std.proofs.Common.{slice_get, count_by, nat_lt, All, sym, ap, subst, ◌∙◌, inl, inr, arith}
use Rattle.std.proofs.lemmas.List.{length-append}
use Rattle.std.proofs.lemmas.List.Concat.{flat_map-append}
use Rattle.audit_collect.specs.declared.fault.Refused.{Refused}
use Rattle.audit_collect.specs.declared.fault.Refused.TheVariants as refused
use Rattle.audit_collect.specs.declared.fault.Unfinished.{Unfinished}
use Rattle.audit_collect.specs.declared.fault.Unfinished.TheVariants.{Open, Gap}
use Rattle.audit_collect.proofs.Members.{count_by-append}
use Rattle.audit_files.specs.declared.fault.FileFault.{FileFault}
use Rattle.audit_run.specs.Asked.{asked_of, counts_in, counts_of, has_number, requests_stated, times_asked, values_of_sender}
use Rattle.audit_run.specs.IsAuditResult.{NoneRefused}
use Rattle.audit_run.specs.Outcome.{HaveRefused, IsGap, Lack}
use Rattle.audit_run.specs.Parts.{Stated}
use Rattle.audit_run.specs.Shards.{refused_after, unfinished_after}
use Rattle.audit_run.proofs.Beside.{at_back, at_cases, at_front, before_or_after, both, of_back, of_front}
use Rattle.audit_run.proofs.Refusals.{IsOwned}

-- no source of both is refused where none of either is
pub none_joined : (faults more : List (Option FileFault)) → NoneRefused faults → NoneRefused more → NoneRefused (faults ++ more)
none_joined faults more none also index fault there = elim (at_cases faults more index (Some fault) there) [
  | inl front ↦ none index fault front
  | inr back ↦ also back.index fault back.there
]

pub none_first : (faults more : List (Option FileFault)) → NoneRefused (faults ++ more) → NoneRefused faults
none_first faults more none index fault there = none index fault (at_front faults more index (Some fault) there)

pub none_second : (faults more : List (Option FileFault)) → NoneRefused (faults ++ more) → NoneRefused more
none_second faults more none index fault there = none (length faults + index) fault (at_back faults more index ∙ there)

-- a sender has a gap where one that asks the same has it
gap_same : (s t n : ℕ) (parts more : List (ℕ × Stated)) → asked_of s parts ≡ asked_of t more
    → counts_of s parts ≡ counts_of t more → IsGap t n more → IsGap s n parts
gap_same s t n parts more asked counts gap = record {
  count = gap.count;
  closed = counts ∙ gap.closed;
  from_one = gap.from_one;
  within = gap.within;
  missing = ap (count_by (has_number n)) asked ∙ gap.missing;
  least = λ smaller low less. subst (λ l. 1 ≤ count_by (has_number smaller) l) (sym asked) (gap.least smaller low less);
}

past_same : (s t n : ℕ) (parts more : List (ℕ × Stated)) → asked_of s parts ≡ asked_of t more
    → counts_of s parts ≡ counts_of t more → HaveRefused more (refused.PastClose t n) → HaveRefused parts (refused.PastClose s n)
past_same s t n parts more asked counts past = (
  subst (λ l. 1 ≤ count_by (has_number n) l) (sym asked) past.0,
  subst (λ l. 1 ≤ count_by (λ c. nat_lt c n) l) (sym counts) past.1,
)

-- what the first list has, both have
pub refused_first : (parts more : List (ℕ × Stated)) (why : Refused) → HaveRefused parts why → HaveRefused (parts ++ more) why
refused_first parts more (refused.Double s n) h =
    let sum = ap (count_by (has_number n)) (flat_map-append (values_of_sender s requests_stated) parts more)
    ∙ count_by-append (has_number n) (asked_of s parts) (asked_of s more) in
    omega (arith, sum, h)
refused_first parts more (refused.ClosedTwice s) h =
    let sum = ap length (flat_map-append (values_of_sender s counts_in) parts more)
    ∙ length-append (counts_of s parts) (counts_of s more) in
    omega (arith, sum, h)
refused_first parts more (refused.PastClose s n) h =
    let asked = ap (count_by (has_number n)) (flat_map-append (values_of_sender s requests_stated) parts more)
    ∙ count_by-append (has_number n) (asked_of s parts) (asked_of s more) in
    let below = ap (count_by (λ c. nat_lt c n)) (flat_map-append (values_of_sender s counts_in) parts more)
    ∙ count_by-append (λ c. nat_lt c n) (counts_of s parts) (counts_of s more) in
    let some = h.0 in
    let past = h.1 in
    (omega (arith, asked, some), omega (arith, below, past))
refused_first parts more (refused.Stranger s) h = h
refused_first parts more (refused.ZeroNumber s) h = h
refused_first parts more refused.Memory h = h

-- a fault of the second list, with its sender so many places further
pub record RefusedAfter (senders : ℕ) (more : List (ℕ × Stated)) (why : Refused) : Type 0 where
  pub own : Refused
  pub have : HaveRefused more own
  pub is : why ≡ refused_after senders own

pub record LackAfter (senders others : ℕ) (more : List (ℕ × Stated)) (what : Unfinished) : Type 0 where
  pub own : Unfinished
  pub lack : Lack others more own
  pub is : what ≡ unfinished_after senders own

module _ (senders : ℕ) (parts more : List (ℕ × Stated)) (parts_by_owner : All (IsOwned senders) parts) where
  -- what the second list has, both have
  pub refused_second : (why : Refused) → HaveRefused more why → HaveRefused (both senders parts more) (refused_after senders why)
  refused_second (refused.Double s n) h =
      subst (λ l. 2 ≤ count_by (has_number n) l) (sym (of_back requests_stated senders s parts more parts_by_owner)) h
  refused_second (refused.ClosedTwice s) h = subst (λ l. 2 ≤ length l) (sym (of_back counts_in senders s parts more parts_by_owner)) h
  refused_second (refused.PastClose s n) h = past_same (senders + s) s n (both senders parts more) more
      (of_back requests_stated senders s parts more parts_by_owner) (of_back counts_in senders s parts more parts_by_owner) h
  refused_second (refused.Stranger s) h = h
  refused_second (refused.ZeroNumber s) h = h
  refused_second refused.Memory h = h

  -- what both have, one of them has
  pub refused_either : (why : Refused) → HaveRefused (both senders parts more) why → HaveRefused parts why ⊎ RefusedAfter senders more why
  refused_either (refused.Double s n) h = elim (before_or_after senders s) [
    | inl before ↦ inl (subst (λ l. 2 ≤ count_by (has_number n) l) (of_front requests_stated senders s parts more before) h)
    | inr after ↦ inr (record {
      own = refused.Double after.index n;
      have = subst (λ l. 2 ≤ count_by (has_number n) l) (of_back requests_stated senders after.index parts more parts_by_owner)
          (subst (λ t. 2 ≤ times_asked t n (both senders parts more)) after.is h);
      is = ap (λ t. refused.Double t n) after.is;
    })
  ]
  refused_either (refused.ClosedTwice s) h = elim (before_or_after senders s) [
    | inl before ↦ inl (subst (λ l. 2 ≤ length l) (of_front counts_in senders s parts more before) h)
    | inr after ↦ inr (record {
      own = refused.ClosedTwice after.index;
      have = subst (λ l. 2 ≤ length l) (of_back counts_in senders after.index parts more parts_by_owner)
          (subst (λ t. 2 ≤ length (counts_of t (both senders parts more))) after.is h);
      is = ap (λ t. refused.ClosedTwice t) after.is;
    })
  ]
  refused_either (refused.PastClose s n) h = elim (before_or_after senders s) [
    | inl before ↦ inl (past_same s s n parts (both senders parts more)
        (sym (of_front requests_stated senders s parts more before)) (sym (of_front counts_in senders s parts more before)) h)
    | inr after ↦ inr (record {
      own = refused.PastClose after.index n;
      have =
          past_same after.index (senders + after.index) n more (both senders parts more)
          (sym (of_back requests_stated senders after.index parts more parts_by_owner))
          (sym (of_back counts_in senders after.index parts more parts_by_owner))
          (subst (λ t. HaveRefused (both senders parts more) (refused.PastClose t n)) after.is h);
      is = ap (λ t. refused.PastClose t n) after.is;
    })
  ]
  refused_either (refused.Stranger s) h = absurd h
  refused_either (refused.ZeroNumber s) h = absurd h
  refused_either refused.Memory h = absurd h

  module _ (others : ℕ) where
    pub lack_first : (what : Unfinished) → Lack senders parts what → Lack (senders + others) (both senders parts more) what
    lack_first (Open s) h = (let within = h.0 in omega (arith, within), of_front counts_in senders s parts more h.0 ∙ h.1)
    lack_first (Gap s n) h = (
      let within = h.0 in omega (arith, within),
      gap_same s s n (both senders parts more) parts (of_front requests_stated senders s parts more h.0)
          (of_front counts_in senders s parts more h.0) h.1,
    )

    pub lack_second : (what : Unfinished) → Lack others more what
        → Lack (senders + others) (both senders parts more) (unfinished_after senders what)
    lack_second (Open s) h = (let within = h.0 in omega (arith, within), of_back counts_in senders s parts more parts_by_owner ∙ h.1)
    lack_second (Gap s n) h = (
      let within = h.0 in omega (arith, within),
      gap_same (senders + s) s n (both senders parts more) more
          (of_back requests_stated senders s parts more parts_by_owner) (of_back counts_in senders s parts more parts_by_owner) h.1,
    )

    pub lack_either : (what : Unfinished) → Lack (senders + others) (both senders parts more) what
        → Lack senders parts what ⊎ LackAfter senders others more what
    lack_either (Open s) h = elim (before_or_after senders s) [
      | inl before ↦ inl (before, sym (of_front counts_in senders s parts more before) ∙ h.1)
      | inr after ↦ inr (record {
        own = Open after.index;
        lack = (
          let within = h.0 in let at = after.is in omega (arith, within, at),
          sym (of_back counts_in senders after.index parts more parts_by_owner)
              ∙ sym (ap (λ t. counts_of t (both senders parts more)) after.is) ∙ h.1,
        );
        is = ap (λ t. Open t) after.is;
      })
    ]
    lack_either (Gap s n) h = elim (before_or_after senders s) [
      | inl before ↦ inl (
        before,
        gap_same s s n parts (both senders parts more)
            (sym (of_front requests_stated senders s parts more before)) (sym (of_front counts_in senders s parts more before)) h.1,
      )
      | inr after ↦ inr (record {
        own = Gap after.index n;
        lack = (
          let within = h.0 in let at = after.is in omega (arith, within, at),
          gap_same after.index (senders + after.index) n more (both senders parts more)
              (sym (of_back requests_stated senders after.index parts more parts_by_owner))
              (sym (of_back counts_in senders after.index parts more parts_by_owner))
              (subst (λ t. IsGap t n (both senders parts more)) after.is h.1),
        );
        is = ap (λ t. Gap t n) after.is;
      })
    ]
