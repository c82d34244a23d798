-- A roster and arrivals have a report, or a fault other than out of memory.
use Rattle.std.proofs.Common.{◌≡◌, ℕ, zero, suc, ◌+◌, ◌<◌, ◌≤◌, true, List, [], ◌∷◌, length, Option, Some, None, Result, Ok}
use Rattle.std.proofs.Common.{Err, refl, sym, ◌∙◌, ap, subst, inl, inr, arith, ◌==◌}
use Rattle.std.specs.Prelude.{◌⊎◌, nat_lt, slice_get, is_some, IsTrue}
use Rattle.std.specs.FinMap.{contains_key, get}
use Rattle.std.specs.Option.{option_map_or}
use Rattle.std.proofs.lemmas.Bool.{cases_lt, true≢false}
use Rattle.audit_collect.proofs.Arrivals.{runs}
use Rattle.audit_collect.proofs.CompleteLaw.{finished_report}
use Rattle.audit_collect.proofs.Well.{AllWell, AllWell-start, IsWell}
use Rattle.audit_collect.specs.Collect.{FailsWith, IsFirstRefused, IsOutOfMemory}
use Rattle.audit_collect.specs.Complete.{IsReportOf}
use Rattle.audit_collect.specs.Finished.{AllFinished, IsFinished, IsMissing, report_of}
use Rattle.audit_collect.specs.Roster.{AreDistinct, IsRoster, RefusesRoster, RepeatsAt, most_senders}
use Rattle.audit_collect.specs.SenderState.{SenderState, after, after_first, close_refusal, exceeds_close, greatest_number, refusal}
use Rattle.audit_collect.specs.SenderState.{reply_refusal, start, with_arrival}
use Rattle.audit_collect.specs.declared.arrival.Answer.{Answer}
use Rattle.audit_collect.specs.declared.arrival.Arrival.{Arrival}
use Rattle.audit_collect.specs.declared.arrival.Arrival.TheVariants.{Close, Reply}
use Rattle.audit_collect.specs.declared.fault.CollectFault.{CollectFault}
use Rattle.audit_collect.specs.declared.fault.CollectFault.TheVariants as faults
use Rattle.audit_collect.specs.declared.fault.Refused.{Refused}
use Rattle.audit_collect.specs.declared.fault.Refused.TheVariants.{Memory, Stranger}
use Rattle.audit_collect.specs.declared.fault.RosterFault.{RosterFault}
use Rattle.audit_collect.specs.declared.fault.RosterFault.TheVariants as rosters
use Rattle.audit_collect.specs.declared.fault.Unfinished.{Unfinished}
use Rattle.audit_collect.specs.declared.fault.Unfinished.TheVariants.{Gap, Open}
use Rattle.audit_collect.specs.declared.report.Report.{Report}
use Rattle.sudo_laws.proofs.DecidedLemmas.{Decided, decided_as, decided_both, decided_less_or_same, decided_name, least_below}
use Rattle.sudo_laws.proofs.DecidedLemmas.{none_some, some_is}
use Rattle.sudo_text.proofs.RunCharacters.{choose}

-- ---- The roster

module _ (names : List (List ℕ)) where
  decided_there : (name : List ℕ) (k : ℕ) → Decided (slice_get names k ≡ Some name)
  decided_there name k = by (slice_get names k) refl
    where
      by : (o : Option (List ℕ)) → slice_get names k ≡ o → Decided (slice_get names k ≡ Some name)
      by None is = inr (λ e. none_some (sym is ∙ e))
      by (Some other) is = decided_as (λ e. is ∙ ap Some e) (λ e. some_is (sym is ∙ e)) (decided_name other name)

  decided_earlier : (name : List ℕ) (i : ℕ) → Decided ((k : ℕ) × (k < i) × (slice_get names k ≡ Some name))
  decided_earlier name i = elim (least_below (λ k. slice_get names k ≡ Some name) (decided_there name) i) [
    | inl found ↦ inl (found.0, found.1, found.2)
    | inr none ↦ inr (λ h. none h.0 h.1 h.2)
  ]

  -- a name is repeated at an index
  abbrev Repeats : ℕ → Type 0
  Repeats i = (name : List ℕ) × RepeatsAt names i name

  decided_repeat : (i : ℕ) → Decided (Repeats i)
  decided_repeat i = by (slice_get names i) refl
    where
      by : (o : Option (List ℕ)) → slice_get names i ≡ o → Decided (Repeats i)
      by None is = inr (λ h. none_some (sym is ∙ h.1.there))
      by (Some name) is =
          decided_as (λ h. (name, record { there = is; earlier = h.0; before = h.1; same = h.2 }))
          (λ h. (h.1.earlier, h.1.before, h.1.same ∙ ap Some (some_is (sym h.1.there ∙ is))))
          (decided_earlier name i)

  roster_outcome : IsRoster names ⊎ ((why : RosterFault) × (why ≡ rosters.Memory → ⊥) × RefusesRoster names why)
  roster_outcome = elim (least_below Repeats decided_repeat (length names)) [
    | inl found ↦
        inr (
          rosters.SenderTwice found.2.0,
          (λ e. cc),
          record { index = found.0; repeats = found.2.1; first = λ i name lt r. found.3 i lt (name, r) },
        )
    | inr none ↦
        (let distinct : AreDistinct names = λ i name lt r. none i lt (name, r) in
        elim (cases_lt most_senders (length names)) [
          | inl many ↦ inr (rosters.TooManySenders, (λ e. cc), (distinct, many))
          | inr few ↦ inl (record { distinct = distinct; few = few })
        ])
  ]

-- ---- The arrivals

err_is : {A : Type 0} {a b : Refused} → ◌≡◌ {A = Result A Refused} (Err a) (Err b) → a ≡ b
err_is e = cc

ok_err : {A : Type 0} {a : A} {b : Refused} → ◌≡◌ {A = Result A Refused} (Ok a) (Err b) → ⊥
ok_err e = absurd cc

-- the first arrival that is refused
refused_first : (held : List SenderState) (arrivals : List Arrival) (why : Refused) → after held arrivals ≡ Err why
    → IsFirstRefused held arrivals why
refused_first held [] why is = absurd (ok_err is)
refused_first held (a ∷ arrivals) why is = by (refusal held a) refl is (refused_first (with_arrival held a) arrivals why)
  where
    by : (o : Option Refused) → refusal held a ≡ o → after_first o (after (with_arrival held a) arrivals) ≡ Err why
        → (after (with_arrival held a) arrivals ≡ Err why → IsFirstRefused (with_arrival held a) arrivals why)
        → IsFirstRefused held (a ∷ arrivals) why
    by (Some first) refused is rest = record {
      before = [];
      arrival = a;
      later = arrivals;
      split = refl;
      mid = held;
      accepted = refl;
      back = inl (refused ∙ ap Some (err_is is));
    }
    by None taken is rest =
        let found = rest is in
        record {
          before = a ∷ found.before;
          arrival = found.arrival;
          later = found.later;
          split = ap (λ xs. a ∷ xs) found.split;
          mid = found.mid;
          accepted = ap (λ o. after_first o (after (with_arrival held a) found.before)) taken ∙ found.accepted;
          back = found.back;
        }

-- no arrival is refused as out of memory
reply_not_memory : (h : SenderState) (sender number : ℕ) → reply_refusal h sender number ≡ Some Memory → ⊥
reply_not_memory h sender number is =
    choose (number == 0) _ _ _ is (λ w e. cc)
    (λ w rest. choose (contains_key h.answers number) _ _ _ rest (λ v e. cc)
    (λ v rest2. choose (exceeds_close h.close number) _ _ _ rest2 (λ u e. cc) (λ u e. cc)))

close_not_memory : (h : SenderState) (sender count : ℕ) → close_refusal h sender count ≡ Some Memory → ⊥
close_not_memory h sender count is =
    choose (is_some h.close) _ _ _ is (λ w e. cc)
    (λ w rest. choose (nat_lt count (greatest_number h)) _ _ _ rest (λ v e. cc) (λ v e. cc))

refusal_not_memory : (held : List SenderState) (a : Arrival) → refusal held a ≡ Some Memory → ⊥
refusal_not_memory held (Reply answer) is = by (slice_get held answer.sender) is
  where
    by : (o : Option SenderState)
        → option_map_or (λ h. reply_refusal h answer.sender answer.request.number) o (Some (Stranger answer.sender)) ≡ Some Memory → ⊥
    by None e = cc
    by (Some h) e = reply_not_memory h answer.sender answer.request.number e
refusal_not_memory held (Close sender count) is = by (slice_get held sender) is
  where
    by : (o : Option SenderState) → option_map_or (λ h. close_refusal h sender count) o (Some (Stranger sender)) ≡ Some Memory → ⊥
    by None e = cc
    by (Some h) e = close_not_memory h sender count e

after_not_memory : (held : List SenderState) (arrivals : List Arrival) → after held arrivals ≡ Err Memory → ⊥
after_not_memory held [] is = ok_err is
after_not_memory held (a ∷ arrivals) is = by (refusal held a) refl is (after_not_memory (with_arrival held a) arrivals)
  where
    by : (o : Option Refused) → refusal held a ≡ o → after_first o (after (with_arrival held a) arrivals) ≡ Err Memory
        → (after (with_arrival held a) arrivals ≡ Err Memory → ⊥) → ⊥
    by (Some first) refused is rest = refusal_not_memory held a (refused ∙ ap Some (err_is is))
    by None taken is rest = rest is

-- ---- The senders

some_unless : {A : Type 0} (o : Option A) → (o ≡ None → ⊥) → is_some o ≡ true
some_unless None h = absurd (h refl)
some_unless (Some a) h = refl

-- a sender is finished, or something of it is missing
module _ (s : ℕ) (h : SenderState) (well : IsWell s h) where
  -- the number is missing
  abbrev Lacks : ℕ → Type 0
  Lacks n = (1 ≤ n) × (get h.answers n ≡ None)

  decided_none : {A : Type 0} (o : Option A) → Decided (o ≡ None)
  decided_none None = inl refl
  decided_none (Some a) = inr (λ e. none_some (sym e))

  decided_lack : (n : ℕ) → Decided (Lacks n)
  decided_lack n = decided_both (decided_less_or_same 1 n) (decided_none (get h.answers n))

  found_some : (n : ℕ) → is_some (get h.answers n) ≡ true → (a : Answer) × (get h.answers n ≡ Some a)
  found_some n has = by (get h.answers n) refl
    where
      by : (o : Option Answer) → get h.answers n ≡ o → (a : Answer) × (get h.answers n ≡ Some a)
      by None is = absurd (true≢false (sym has ∙ ap is_some is))
      by (Some a) is = (a, is)

  counted : (count : ℕ) → h.close ≡ Some count → ((n : ℕ) → n < suc count → Lacks n → ⊥) → IsFinished h
  counted count closed none = record { count = count; closed = closed; numbers = λ n. (bounds n, holds n) }
    where
      holds : (n : ℕ) → (1 ≤ n) × (n ≤ count) → IsTrue (contains_key h.answers n)
      holds n within = some_unless (get h.answers n) (λ is. none n (omega (arith, within.1)) (within.0, is))

      bounds : (n : ℕ) → IsTrue (contains_key h.answers n) → (1 ≤ n) × (n ≤ count)
      bounds zero has = absurd (true≢false (sym has ∙ ap is_some well.positive))
      bounds (suc n) has = let a = found_some (suc n) has in (omega arith, well.within count (suc n) a.0 closed a.1)

  sender_outcome : IsFinished h ⊎ ((what : Unfinished) × IsMissing s h what)
  sender_outcome = by h.close refl
    where
      by : (o : Option ℕ) → h.close ≡ o → IsFinished h ⊎ ((what : Unfinished) × IsMissing s h what)
      by None is = inr (Open s, (refl, is))
      by (Some count) is = elim (least_below Lacks decided_lack (suc count)) [
        | inl found ↦
            (let below = found.1 in
            inr (
              Gap s found.0,
              (
                refl,
                record {
                  count = count;
                  closed = is;
                  from_one = found.2.0;
                  within = omega (arith, below);
                  missing = found.2.1;
                  least = λ n one less. some_unless (get h.answers n) (λ none. found.3 n less (one, none));
                },
              ),
            ))
        | inr none ↦ inl (counted count is none)
      ]

-- what is missing of the first sender that lacks something; `k` is the index of the first one
record FirstMissing (k : ℕ) (held : List SenderState) : Type 0 where
  index : ℕ
  sender : SenderState
  what : Unfinished
  there : slice_get held index ≡ Some sender
  misses : IsMissing (k + index) sender what
  earlier : (s : ℕ) (h : SenderState) → s < index → slice_get held s ≡ Some h → IsFinished h

finished_first : (h : SenderState) (held : List SenderState) → IsFinished h → AllFinished held → AllFinished (h ∷ held)
finished_first h held first rest zero x at = subst IsFinished (some_is at) first
finished_first h held first rest (suc s) x at = rest s x at

missing_later : (k : ℕ) (h : SenderState) (held : List SenderState) → IsFinished h → FirstMissing (k + 1) held → FirstMissing k (h ∷ held)
missing_later k h held first m =
    let order : k + 1 + m.index ≡ k + suc m.index = omega arith in
    record {
      index = suc m.index;
      sender = m.sender;
      what = m.what;
      there = m.there;
      misses = subst (λ n. IsMissing n m.sender m.what) order m.misses;
      earlier = earlier;
    }
  where
    earlier : (s : ℕ) (x : SenderState) → s < suc m.index → slice_get (h ∷ held) s ≡ Some x → IsFinished x
    earlier zero x less at = subst IsFinished (some_is at) first
    earlier (suc s) x less at = m.earlier s x (omega (arith, less)) at

senders_outcome : (k : ℕ) (held : List SenderState) → AllWell k held → AllFinished held ⊎ FirstMissing k held
senders_outcome k [] well = inl (λ s h at. absurd (none_some at))
senders_outcome k (h ∷ held) well = elim (sender_outcome k h well.0) [
  | inr missing ↦
      (let here : k ≡ k + 0 = omega arith in
      inr (record {
        index = 0;
        sender = h;
        what = missing.0;
        there = refl;
        misses = subst (λ n. IsMissing n h missing.0) here missing.1;
        earlier = λ s x less at. absurd (omega (arith, less));
      }))
  | inl first ↦
      (elim (senders_outcome (k + 1) held well.1) [
        | inl rest ↦ inl (finished_first h held first rest)
        | inr later ↦ inr (missing_later k h held first later)
      ])
]

-- ---- All together

module _ (names : List (List ℕ)) (arrivals : List Arrival) where
  -- a report, or a fault other than out of memory
  abbrev Outcome : Type 0
  Outcome =
      (IsRoster names × ((made : Report) × IsReportOf names arrivals made))
      ⊎ ((fault : CollectFault) × FailsWith names arrivals fault × (IsOutOfMemory (Err fault) → ⊥))

  from_last : IsRoster names → (last : List SenderState) → after (start names) arrivals ≡ Ok last → Outcome
  from_last roster last is = elim (senders_outcome 0 last ((runs (start names) arrivals last is).well (AllWell-start 0 names))) [
    | inl all ↦ inl (roster, (report_of last, finished_report names arrivals last is all))
    | inr m ↦
        (let index : 0 + m.index ≡ m.index = omega arith in
        inr (
          faults.Unfinished m.what,
          (
            roster,
            record {
              last = last;
              accepted = is;
              missing = record {
                index = m.index;
                sender = m.sender;
                there = m.there;
                misses = subst (λ n. IsMissing n m.sender m.what) index m.misses;
                earlier = m.earlier;
              };
            },
          ),
          unfinished_memory m.what,
        ))
  ]
    where
      unfinished_memory : (what : Unfinished) → IsOutOfMemory (Err (faults.Unfinished what)) → ⊥
      unfinished_memory what (inl e) = cc
      unfinished_memory what (inr e) = cc

  from_roster : IsRoster names → Outcome
  from_roster roster = by (after (start names) arrivals) refl
    where
      refused_memory : (why : Refused) → (why ≡ Memory → ⊥) → IsOutOfMemory (Err (faults.Refused why)) → ⊥
      refused_memory why other (inl e) = cc
      refused_memory why other (inr e) = other cc

      by : (r : Result (List SenderState) Refused) → after (start names) arrivals ≡ r → Outcome
      by (Ok last) is = from_last roster last is
      by (Err why) is =
          inr (
            faults.Refused why,
            (roster, refused_first (start names) arrivals why is),
            refused_memory why (λ e. after_not_memory (start names) arrivals (is ∙ ap Err e)),
          )

  pub report_or_fault : Outcome
  report_or_fault = elim (roster_outcome names) [
    | inl roster ↦ from_roster roster
    | inr refused ↦ inr (faults.Roster refused.0, refused.2, roster_memory refused.0 refused.1)
  ]
    where
      roster_memory : (why : RosterFault) → (why ≡ rosters.Memory → ⊥) → IsOutOfMemory (Err (faults.Roster why)) → ⊥
      roster_memory why other (inl e) = other cc
      roster_memory why other (inr e) = cc
