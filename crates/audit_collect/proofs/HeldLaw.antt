-- The arrivals determine what the state holds.
use Rattle.std.proofs.Common.{◌≡◌, ◌⊎◌, ℕ, zero, suc, ◌+◌, ◌≤◌, Bool, true, false, cond, ◌&&◌, ◌==◌, List, ◌++◌}
use Rattle.std.proofs.Common.{length, map, Option, None, Some, Ok, slice_get, is_some, count_by, IsPermutation, sym}
use Rattle.std.proofs.Common.{ap, subst, ◌∙◌, refl, inl, inr, arith, if◌then◌else◌}
use Rattle.std.proofs.lemmas.Bool.Decides.{nat_tests}
use Rattle.std.proofs.lemmas.List.{length-map}
use Rattle.std.proofs.lemmas.Option.{same_Some}
use Rattle.std.specs.FinMap.{get}
use Rattle.audit_collect.specs.declared.arrival.Answer.{Answer}
use Rattle.audit_collect.specs.declared.arrival.Arrival.{Arrival}
use Rattle.audit_collect.specs.declared.arrival.Arrival.TheVariants.{Reply, Close}
use Rattle.audit_collect.specs.Faults.{is_close, is_reply}
use Rattle.audit_collect.specs.SenderState.{SenderState, after, empty_sender, start}
use Rattle.audit_collect.proofs.Arrivals.{arrivals_of, runs}
use Rattle.audit_collect.proofs.Counts.{close_held, closes_once, replies_once, reply_held}
use Rattle.audit_collect.proofs.FaultLaw.{arrivals_of-start, close-in-part, part-in-all, reply_in_part, well_at}
use Rattle.audit_collect.proofs.Members.{Among, Among-permutation, count_by-permutation, count_by_member, found_counted}
use Rattle.audit_collect.proofs.Well.{AllWell, AllWell-start, named_at}
use Rattle.std.proofs.lemmas.List.Sorted.{IsPermutation-sym}
use Rattle.std.proofs.lemmas.Bool.{and_parts}

pub tested : (a b : ℕ) → (a == b) ≡ true → a ≡ b
tested a b e = grind (arith, nat_tests)

pub self_tested : (a : ℕ) → (a == a) ≡ true
self_tested a = grind (arith, nat_tests)

pub zero_or_some : (k : ℕ) → (k ≡ 0) ⊎ (1 ≤ k)
zero_or_some zero = inl refl
zero_or_some (suc k) = inr (omega arith)

module _ (names : List (List ℕ)) (arrivals : List Arrival) (held : List SenderState) (ran : after (start names) arrivals ≡ Ok held) where
  well : AllWell 0 held
  well = (runs (start names) arrivals held ran).well (AllWell-start 0 names)

  same : IsPermutation arrivals (arrivals_of 0 held)
  same = subst (λ l. IsPermutation (l ++ arrivals) (arrivals_of 0 held)) (arrivals_of-start 0 names)
      (runs (start names) arrivals held ran).arrived

  -- a sender is held for each name
  pub one_each : length held ≡ length names
  one_each = sym (length-map held (λ h. h.name)) ∙ ap length (runs (start names) arrivals held ran).names
      ∙ length-map (start names) (λ h. h.name) ∙ length-map names empty_sender

  counted : (p : Arrival → Bool) → count_by p (arrivals_of 0 held) ≡ count_by p arrivals
  counted p = count_by-permutation p arrivals (arrivals_of 0 held) same

  module _ (s : ℕ) (h : SenderState) (there : slice_get held s ≡ Some h) where
    no_close : h.close ≡ None → (x : Arrival) → Among x (arrivals_of 0 held) → is_close s x ≡ true → ⊥
    no_close unclosed (Reply a) m e = absurd (cc)
    no_close unclosed (Close t c) m e =
        let found = close_held 0 held t c m in
        let own = tested t s e in
        let at = found.at in
        let index : found.index ≡ s = omega (arith, at, own) in
        let sender = same_Some found.sender h (sym found.there ∙ ap (slice_get held) index ∙ there) in
        let clash : Some c ≡ None = sym found.got ∙ ap (λ (k : SenderState). k.close) sender ∙ unclosed in
        cc

    no_reply : (n : ℕ) → get h.answers n ≡ None → (x : Arrival) → Among x (arrivals_of 0 held) → is_reply s n x ≡ true → ⊥
    no_reply n none (Close t c) m e = absurd (cc)
    no_reply n none (Reply a) m e =
        let found = reply_held 0 held a well m in
        let tests = and_parts (a.sender == s) (a.request.number == n) e in
        let own = tested a.sender s tests.0 in
        let number = tested a.request.number n tests.1 in
        let at = found.at in
        let index : found.index ≡ s = omega (arith, at, own) in
        let sender = same_Some found.sender h (sym found.there ∙ ap (slice_get held) index ∙ there) in
        let clash : Some a ≡ None = sym found.got ∙ ap (λ (k : SenderState). get k.answers a.request.number) sender
        ∙ ap (get h.answers) number ∙ none in
        cc

    -- the close mark of a sender that is closed has arrived
    pub close_arrived : (count : ℕ) → h.close ≡ Some count → Among (Close s count) arrivals
    close_arrived count closed =
        Among-permutation (Close s count) (arrivals_of 0 held) arrivals (IsPermutation-sym arrivals (arrivals_of 0 held) same)
        (part-in-all (Close s count) s 0 s held h (omega arith) there (close-in-part s count h closed))

    -- as many close marks of a sender have arrived as are held
    pub close_counted : (o : Option ℕ) → h.close ≡ o → count_by (is_close s) arrivals ≡ (if is_some o then 1 else 0)
    close_counted None unclosed = by (zero_or_some (count_by (is_close s) arrivals))
      where
        by : (count_by (is_close s) arrivals ≡ 0) ⊎ (1 ≤ count_by (is_close s) arrivals) → count_by (is_close s) arrivals ≡ 0
        by (inl none) = none
        by (inr some) =
            let found = found_counted (is_close s) (arrivals_of 0 held) (subst (λ k. 1 ≤ k) (sym (counted (is_close s))) some) in
            absurd (no_close unclosed found.item found.member found.passes)
    close_counted (Some count) closed =
        let some = count_by_member (is_close s) (Close s count) arrivals (close_arrived count closed) (self_tested s) in
        let once = closes_once 0 s held in
        let all = counted (is_close s) in
        omega (arith, some, once, all)

    -- and as many replies of a number
    pub reply_counted : (n : ℕ) (o : Option Answer) → get h.answers n ≡ o → count_by (is_reply s n) arrivals ≡ (if is_some o then 1 else 0)
    reply_counted n None none = by (zero_or_some (count_by (is_reply s n) arrivals))
      where
        by : (count_by (is_reply s n) arrivals ≡ 0) ⊎ (1 ≤ count_by (is_reply s n) arrivals) → count_by (is_reply s n) arrivals ≡ 0
        by (inl never) = never
        by (inr some) =
            let found = found_counted (is_reply s n) (arrivals_of 0 held) (subst (λ k. 1 ≤ k) (sym (counted (is_reply s n))) some) in
            absurd (no_reply n none found.item found.member found.passes)
    reply_counted n (Some a) got =
        let named = named_at s n a h (well_at s 0 s held h (omega arith) there well) got in
        let member = part-in-all (Reply a) s 0 s held h (omega arith) there (reply_in_part s n a h got) in
        let own : (a.sender == s) ≡ true = ap (λ t. t == s) named.0 ∙ self_tested s in
        let number : (a.request.number == n) ≡ true = ap (λ t. t == n) named.1 ∙ self_tested n in
        let some = count_by_member (is_reply s n) (Reply a) (arrivals_of 0 held) member
        (ap (λ b. b && (a.request.number == n)) own ∙ number) in
        let once = replies_once 0 s n held well in
        let all = counted (is_reply s n) in
        omega (arith, some, once, all)
