-- A collector holds what the sources state, and lacks what they lack.
use Rattle.std.proofs.Common.{◌≡◌, ℕ, zero, suc, ◌+◌, ◌≤◌, ◌<◌, Bool, true, false, cond, ◌&&◌, ◌==◌, List, [], ◌∷◌}
use Rattle.std.proofs.Common.{length, map, Option, None, Some, IsSome, IsTrue, Ok, slice_get, is_some, count_by}
use Rattle.std.proofs.Common.{IsPermutation, sym, ap, subst, ◌∙◌, refl, inl, inr, arith}
use Rattle.std.proofs.lemmas.Bool.{cases_lt}
use Rattle.std.proofs.lemmas.Option.{slice_get_within}
use Rattle.std.specs.FinMap.{get, contains_key}
use Rattle.audit_collect.specs.declared.arrival.Answer.{Answer}
use Rattle.audit_collect.specs.declared.arrival.Arrival.{Arrival}
use Rattle.audit_collect.specs.declared.arrival.Arrival.TheVariants.{Reply, Close}
use Rattle.audit_collect.specs.declared.fault.Unfinished.{Unfinished}
use Rattle.audit_collect.specs.declared.fault.Unfinished.TheVariants.{Open, Gap}
use Rattle.audit_collect.specs.Faults.{is_close, is_reply}
use Rattle.audit_collect.specs.Finished.{AllFinished, IsFinished, IsFirstMissing, IsLeastMissing, IsMissing}
use Rattle.audit_collect.specs.SenderState.{SenderState, after, start}
use Rattle.audit_collect.proofs.HeldLaw.{close_arrived, close_counted, one_each, reply_counted, self_tested, tested}
use Rattle.audit_collect.proofs.Members.{count_by-cons, count_by_member}
use Rattle.audit_run.specs.declared.message.Names.{Names}
use Rattle.audit_run.specs.declared.message.Outcome.{Outcome}
use Rattle.audit_run.specs.Names.{answer}
use Rattle.audit_run.specs.Arrivals.{arrivals_of}
use Rattle.audit_run.specs.Asked.{counts_of, times_asked}
use Rattle.audit_run.specs.Outcome.{AreWhole, IsGap, IsWholeSender, Lack}
use Rattle.audit_run.specs.Parts.{Stated, run_jobs}
use Rattle.audit_run.proofs.Counts.{closes_counted, closes_tested, replies_counted}
use Rattle.audit_run.proofs.Refusals.{counted}

-- whether an arrival is a close mark of the sender with this count
abbrev is_close_at : ℕ → ℕ → Arrival → Bool
is_close_at s count (Reply a) = false
is_close_at s count (Close t c) = (t == s) && (c == count)

none_listed : {X : Type 0} (xs : List X) → length xs ≡ 0 → xs ≡ []
none_listed [] e = refl
none_listed (x ∷ xs) e = absurd (omega (arith, e))

-- the one count of a list of one, by a test that one passes
one_listed : (counts : List ℕ) (count : ℕ) → length counts ≡ 1 → 1 ≤ count_by (λ c. c == count) counts → counts ≡ count ∷ []
one_listed [] count e h = absurd (omega (arith, e))
one_listed (c ∷ []) count e h = by (c == count) refl
  where
    by : (b : Bool) → (c == count) ≡ b → c ∷ [] ≡ count ∷ []
    by true same = ap (λ n. n ∷ []) (tested c count same)
    by false other =
        let none = count_by-cons (λ n. n == count) c [] ∙ ap (λ b. cond b 1 0 + count_by (λ n. n == count) []) other in
        absurd (omega (arith, none, h))
one_listed (c ∷ d ∷ rest) count e h = absurd (omega (arith, e))

module _ (names : Names) (roster : List (List ℕ)) (workers : ℕ) (parts : List (ℕ × Stated)) (outcomes : List Outcome)
    (all : IsPermutation (map (answer names) (run_jobs workers parts)) outcomes) (held : List SenderState)
    (ran : after (start roster) (arrivals_of outcomes) ≡ Ok held) where
  long : length held ≡ length roster
  long = one_each roster (arrivals_of outcomes) held ran

  closes : (s : ℕ) → count_by (is_close s) (arrivals_of outcomes) ≡ length (counts_of s parts)
  closes s = counted names workers parts outcomes all (is_close s) ∙ closes_counted names s parts

  replies : (s n : ℕ) → count_by (is_reply s n) (arrivals_of outcomes) ≡ times_asked s n parts
  replies s n = counted names workers parts outcomes all (is_reply s n) ∙ replies_counted names s n parts

  module _ (s : ℕ) (h : SenderState) (there : slice_get held s ≡ Some h) where
    -- a sender that is not closed has no close mark
    open_has_none : h.close ≡ None → counts_of s parts ≡ []
    open_has_none unclosed = none_listed (counts_of s parts) (sym (closes s)
        ∙ close_counted roster (arrivals_of outcomes) held ran s h there None unclosed)

    -- one that is closed has this one
    closed_has_one : (count : ℕ) → h.close ≡ Some count → counts_of s parts ≡ count ∷ []
    closed_has_one count closed =
        let once = close_counted roster (arrivals_of outcomes) held ran s h there (Some count) closed in
        let number = closes s in
        let at = count_by_member (is_close_at s count) (Close s count) (arrivals_of outcomes)
        (close_arrived roster (arrivals_of outcomes) held ran s h there count closed)
        (ap (λ b. b && (count == count)) (self_tested s) ∙ self_tested count) in
        let tested_at = counted names workers parts outcomes all (is_close_at s count)
        ∙ closes_tested names (is_close_at s count) s (λ c. c == count) (λ t r. refl) (λ t c. refl) parts in
        one_listed (counts_of s parts) count (omega (arith, once, number)) (subst (λ k. 1 ≤ k) tested_at at)

    -- an accepted number is asked once
    held_is_once : (n : ℕ) (a : Answer) → get h.answers n ≡ Some a → times_asked s n parts ≡ 1
    held_is_once n a got = sym (replies s n) ∙ reply_counted roster (arrivals_of outcomes) held ran s h there n (Some a) got

    -- and one that is not is not
    not_held_is_not_asked : (n : ℕ) → get h.answers n ≡ None → times_asked s n parts ≡ 0
    not_held_is_not_asked n none = sym (replies s n) ∙ reply_counted roster (arrivals_of outcomes) held ran s h there n None none

    held_is_asked : (n : ℕ) → IsSome (get h.answers n) → 1 ≤ times_asked s n parts
    held_is_asked n some = by (get h.answers n) refl some
      where
        by : (o : Option Answer) → get h.answers n ≡ o → IsSome o → 1 ≤ times_asked s n parts
        by None e none = absurd (cc)
        by (Some a) e some_is = let once = held_is_once n a e in omega (arith, once)

    -- the least number that is missing is the gap of the sources
    gap_of : (n : ℕ) → IsLeastMissing h n → IsGap s n parts
    gap_of n missing = record {
      count = missing.count;
      closed = closed_has_one missing.count missing.closed;
      from_one = missing.from_one;
      within = missing.within;
      missing = not_held_is_not_asked n missing.missing;
      least = λ smaller one less. held_is_asked smaller (missing.least smaller one less);
    }

    -- a finished sender is whole
    whole_of : IsFinished h → IsWholeSender s parts
    whole_of finished = record {
      count = finished.count;
      closed = closed_has_one finished.count finished.closed;
      once = λ n one within. once n (get h.answers n) refl ((finished.numbers n).1 (one, within));
      no_other = λ n out. outside n (λ inside. out inside.0 inside.1) (get h.answers n) refl;
    }
      where
        once : (n : ℕ) (o : Option Answer) → get h.answers n ≡ o → IsTrue (contains_key h.answers n) → times_asked s n parts ≡ 1
        once n None e has = let never : false ≡ true = subst (λ o. IsTrue (is_some o)) e has in absurd (cc)
        once n (Some a) e has = held_is_once n a e

        outside : (n : ℕ) → ((1 ≤ n) × (n ≤ finished.count) → ⊥) → (o : Option Answer) → get h.answers n ≡ o → times_asked s n parts ≡ 0
        outside n out None e = not_held_is_not_asked n e
        outside n out (Some a) e = absurd (out ((finished.numbers n).0 (subst (λ o. IsTrue (is_some o)) (sym e) refl)))

    -- and a whole sender is finished
    finished_of : IsWholeSender s parts → IsFinished h
    finished_of whole = by h.close refl
      where
        inside : (count n : ℕ) → whole.count ≡ count → (o : Option Answer) → get h.answers n ≡ o
            → IsTrue (contains_key h.answers n) → (1 ≤ n) × (n ≤ count)
        inside count n same None e has = let never : false ≡ true = subst (λ o. IsTrue (is_some o)) e has in absurd (cc)
        inside count zero same (Some a) e has =
            let once = held_is_once 0 a e in
            let none = whole.no_other 0 (λ low high. omega (arith, low)) in
            absurd (omega (arith, once, none))
        inside count (suc n) same (Some a) e has = elim (cases_lt count (suc n)) [
          | inl past ↦
              let once = held_is_once (suc n) a e in
              let none = whole.no_other (suc n) (λ low high. omega (arith, same, past, high)) in
              absurd (omega (arith, once, none))
          | inr within ↦ (omega arith, within)
        ]

        accepted : (count n : ℕ) → whole.count ≡ count → (o : Option Answer) → get h.answers n ≡ o
            → (1 ≤ n) × (n ≤ count) → IsTrue (contains_key h.answers n)
        accepted count n same None e bounds =
            let high = bounds.1 in
            let once = whole.once n bounds.0 (omega (arith, same, high)) in
            let none = not_held_is_not_asked n e in
            absurd (omega (arith, once, none))
        accepted count n same (Some a) e bounds = subst (λ o. IsTrue (is_some o)) (sym e) refl

        by : (o : Option ℕ) → h.close ≡ o → IsFinished h
        by None unclosed = let none : whole.count ∷ [] ≡ [] = sym whole.closed ∙ open_has_none unclosed in absurd (cc)
        by (Some count) closed =
            let both : whole.count ∷ [] ≡ count ∷ [] = sym whole.closed ∙ closed_has_one count closed in
            let same : whole.count ≡ count = cc in
            record {
              count = count;
              closed = closed;
              numbers = λ n. (inside count n same (get h.answers n) refl, accepted count n same (get h.answers n) refl);
            }

  -- all senders are finished if the sources are whole
  pub finished_all : AreWhole (length roster) parts → AllFinished held
  finished_all whole s h there =
      let within = slice_get_within held s h there in
      finished_of s h there (whole s (omega (arith, within, long)))

  -- what is missing first is what the sources lack
  pub lacking : (what : Unfinished) → IsFirstMissing held what → Lack (length roster) parts what
  lacking what first = by what first.misses
    where
      within : first.index < length roster
      within = let inside = slice_get_within held first.index first.sender first.there in omega (arith, inside, long)

      by : (what : Unfinished) → IsMissing first.index first.sender what → Lack (length roster) parts what
      by (Open s) misses = (
        subst (λ n. n < length roster) (sym misses.0) within,
        subst (λ n. counts_of n parts ≡ []) (sym misses.0) (open_has_none first.index first.sender first.there misses.1),
      )
      by (Gap s n) misses = (
        subst (λ m. m < length roster) (sym misses.0) within,
        subst (λ m. IsGap m n parts) (sym misses.0) (gap_of first.index first.sender first.there n misses.1),
      )

  -- where all are finished, the sources are whole
  pub whole : AllFinished held → AreWhole (length roster) parts
  whole finished s inside =
      let within : s < length held = omega (arith, inside, long) in
      at (slice_get held s) refl within
    where
      missing : (held : List SenderState) (s : ℕ) → s < length held → slice_get held s ≡ None → ⊥
      missing [] s less none = omega (arith, less)
      missing (h ∷ held) zero less none = let clash : Some h ≡ None = none in cc
      missing (h ∷ held) (suc s) less none = missing held s (omega (arith, less)) none

      at : (o : Option SenderState) → slice_get held s ≡ o → s < length held → IsWholeSender s parts
      at (Some h) there within = whole_of s h there (finished s h there)
      at None past within = absurd (missing held s within past)
