-- The accepted arrivals are, in some order, those that the state holds.
use Rattle.std.proofs.Common.{◌≡◌, ◌≢◌, ℕ, zero, suc, ◌+◌, ◌≤◌, Bool, true, false, cond, List, [], ◌∷◌, ◌++◌, map}
use Rattle.std.proofs.Common.{Option, None, Some, Ok, slice_get, nat_lt, is_some, if◌then◌else◌, IsPermutation, sym}
use Rattle.std.proofs.Common.{ap, subst, ◌∙◌, refl, arith, append-nil}
use Rattle.std.proofs.lemmas.Bool.Decides.{nat_tests}
use Rattle.std.proofs.lemmas.Option.{same_Some}
use Rattle.std.proofs.lemmas.List.Sorted.{IsPermutation-refl, IsPermutation-sym, IsPermutation-trans}
use Rattle.std.proofs.lemmas.List.Sorted.{IsPermutation-cons, IsPermutation-map, IsPermutation-middle}
use Rattle.std.proofs.lemmas.List.Sorted.{IsPermutation-to_front, IsPermutation-append_left}
use Rattle.std.proofs.lemmas.List.Sorted.{IsPermutation-append_right}
use Rattle.std.specs.declared.cmp.Ordering.{Ordering}
use Rattle.std.specs.declared.cmp.Ordering.TheVariants.{Less, Equal, Greater}
use Rattle.std.specs.Ordering.{nat_cmp}
use Rattle.std.specs.Cmp.{nat_cmp_total, ranked}
use Rattle.std.specs.Option.{option_map_or}
use Rattle.std.specs.FinMap.{find, get, get-entries, insert, entries, entries-insert, put, values}
use Rattle.std.specs.FinMap.Entries.{by_order}
use Rattle.sudo_base.proofs.Options.{none_of}
use Rattle.audit_collect.specs.declared.arrival.Answer.{Answer}
use Rattle.audit_collect.specs.declared.arrival.Arrival.{Arrival}
use Rattle.audit_collect.specs.declared.arrival.Arrival.TheVariants.{Reply, Close}
use Rattle.audit_collect.specs.declared.fault.Refused.{Refused}
use Rattle.audit_collect.specs.declared.fault.Refused.TheVariants.{Stranger, ClosedTwice, PastClose}
use Rattle.audit_collect.specs.SenderState.{SenderState, with_reply, with_close, changed_at, with_arrival, refusal}
use Rattle.audit_collect.specs.SenderState.{reply_refusal, close_refusal, after, after_first, greatest_number}
use Rattle.audit_collect.proofs.Lookups.{ties_same, ties_other}
use Rattle.audit_collect.proofs.SenderSteps.{IsNew, IsNew-from_refusal}
use Rattle.audit_collect.proofs.Well.{AllWell, AllWell-changed, IsWell-with_reply, IsWell-with_close}

abbrev pub close_mark : ℕ → Option ℕ → List Arrival
close_mark s None = []
close_mark s (Some count) = Close s count ∷ []

-- the arrivals that are held of one sender
abbrev pub part : ℕ → SenderState → List Arrival
part s h = map Reply (values h.answers) ++ close_mark s h.close

-- of all senders, the first of which is s
abbrev pub arrivals_of : ℕ → List SenderState → List Arrival
arrivals_of s [] = []
arrivals_of s (h ∷ held) = part s h ++ arrivals_of (s + 1) held

put-permutes : (k : ℕ) (a : Answer) (es : List (ℕ × Answer)) → find nat_cmp k es ≡ None → IsPermutation ((k, a) ∷ es) (put nat_cmp k a es)
put-permutes k a [] none = IsPermutation-refl ((k, a) ∷ [])
put-permutes k a (e ∷ es) none = by (nat_cmp k e.0) refl (put-permutes k a es)
  where
    by : (r : Ordering) → r ≡ nat_cmp k e.0 → (find nat_cmp k es ≡ None → IsPermutation ((k, a) ∷ es) (put nat_cmp k a es))
        → IsPermutation ((k, a) ∷ e ∷ es) (by_order r ((k, a) ∷ e ∷ es) ((e.0, a) ∷ es) (e ∷ put nat_cmp k a es))
    by Less is rest = IsPermutation-refl ((k, a) ∷ e ∷ es)
    by Equal is rest =
        let found = ap (λ b. cond b (Some e.1) (find nat_cmp k es)) (ties_same k e.0 (ranked k e.0 Equal is)) in
        let clash : Some e.1 ≡ None = sym found ∙ none in
        absurd (cc)
    by Greater is rest =
        let above = ranked k e.0 Greater is in
        let other : k ≢ e.0 = omega arith in
        let absent = sym (ap (λ b. cond b (Some e.1) (find nat_cmp k es)) (ties_other k e.0 other)) ∙ none in
        IsPermutation-trans _ _ _ (IsPermutation-sym _ _ (IsPermutation-middle (e ∷ []) (k, a) es))
        (IsPermutation-cons e ((k, a) ∷ es) (put nat_cmp k a es) (rest absent))

part-with_reply : (s : ℕ) (h : SenderState) (a : Answer) → get h.answers a.request.number ≡ None
    → IsPermutation (Reply a ∷ part s h) (part s (with_reply a h))
part-with_reply s h a none =
    let n = a.request.number in
    let entries_ = put-permutes n a (entries h.answers) (sym (get-entries h.answers n) ∙ none) in
    let inserted = subst (λ es. IsPermutation ((n, a) ∷ entries h.answers) es)
    (sym (entries-insert nat_cmp_total h.answers n a)) entries_ in
    IsPermutation-append_left (close_mark s h.close) (Reply a ∷ map Reply (values h.answers)) (map Reply (values (insert h.answers n a)))
    (IsPermutation-map Reply _ _ (IsPermutation-map (λ e. e.1) _ _ inserted))

part-with_close : (s : ℕ) (h : SenderState) (count : ℕ) → h.close ≡ None
    → IsPermutation (Close s count ∷ part s h) (part s (with_close count h))
part-with_close s h count open_ =
    let replies = map Reply (values h.answers) in
    subst (λ xs. IsPermutation (Close s count ∷ xs) (replies ++ Close s count ∷ []))
    (sym (ap (λ c. replies ++ close_mark s c) open_ ∙ append-nil replies))
    (IsPermutation-sym _ _ (IsPermutation-to_front replies (Close s count)))

arrivals_of-changed : (f : SenderState → SenderState) (x : Arrival) (s k i : ℕ) (held : List SenderState)
    (h : SenderState) → s ≡ k + i → slice_get held i ≡ Some h → IsPermutation (x ∷ part s h) (part s (f h))
    → IsPermutation (x ∷ arrivals_of k held) (arrivals_of k (changed_at i f held))
arrivals_of-changed f x s k i [] h is there step = absurd (grind arith)
arrivals_of-changed f x s k zero (y ∷ held) h is there step =
    let at : s ≡ k = omega arith in
    let same = same_Some y h there in
    IsPermutation-append_left (arrivals_of (k + 1) held) (x ∷ part k y) (part k (f y))
    (subst (λ z. IsPermutation (x ∷ part k z) (part k (f z))) (sym same) (subst (λ t. IsPermutation (x ∷ part t h) (part t (f h))) at step))
arrivals_of-changed f x s k (suc i) (y ∷ held) h is there step =
    let rest = arrivals_of-changed f x s (k + 1) i held h (omega arith) there step in
    IsPermutation-trans _ _ _ (IsPermutation-sym _ _ (IsPermutation-middle (part k y) x (arrivals_of (k + 1) held)))
    (IsPermutation-append_right (part k y) _ _ rest)

-- where a reply is accepted
pub record TakesReply (held : List SenderState) (a : Answer) : Type 0 where
  pub sender : SenderState
  pub there : slice_get held a.sender ≡ Some sender
  pub new : IsNew sender a.request.number

pub TakesReply-from_refusal : (held : List SenderState) (a : Answer) → refusal held (Reply a) ≡ None → TakesReply held a
TakesReply-from_refusal held a e = by (slice_get held a.sender) refl e
  where
    by : (o : Option SenderState) → slice_get held a.sender ≡ o
        → option_map_or (λ h. reply_refusal h a.sender a.request.number) o (Some (Stranger a.sender)) ≡ None → TakesReply held a
    by None there e = absurd (cc)
    by (Some h) there e = record { sender = h; there = there; new = IsNew-from_refusal h a.sender a.request.number e }

-- where a close mark is
pub record TakesClose (held : List SenderState) (s count : ℕ) : Type 0 where
  pub sender : SenderState
  pub there : slice_get held s ≡ Some sender
  pub first : sender.close ≡ None
  pub fits : greatest_number sender ≤ count

pub TakesClose-from_refusal : (held : List SenderState) (s count : ℕ) → refusal held (Close s count) ≡ None → TakesClose held s count
TakesClose-from_refusal held s count e = by (slice_get held s) refl e
  where
    open_or : (h : SenderState) (o : Option ℕ) → h.close ≡ o → slice_get held s ≡ Some h → (less : Bool)
        → nat_lt count (greatest_number h) ≡ less
        → ◌≡◌ {A = Option Refused} (if is_some o then Some (ClosedTwice s) else if less then Some
        (PastClose s (greatest_number h)) else None) None → TakesClose held s count
    open_or h (Some c) p there less q e = absurd (cc)
    open_or h None p there true q e = absurd (cc)
    open_or h None p there false q e = record { sender = h; there = there; first = p; fits = grind (arith, nat_tests) }

    by : (o : Option SenderState) → slice_get held s ≡ o
        → option_map_or (λ h. close_refusal h s count) o (Some (Stranger s)) ≡ None → TakesClose held s count
    by None there e = absurd (cc)
    by (Some h) there e = open_or h h.close refl there (nat_lt count (greatest_number h)) refl e

names_of : List SenderState → List (List ℕ)
names_of held = map (λ h. h.name) held

-- one accepted arrival
pub record StepsTo (held : List SenderState) (a : Arrival) : Type 0 where
  pub well : AllWell 0 held → AllWell 0 (with_arrival held a)
  pub arrived : IsPermutation (a ∷ arrivals_of 0 held) (arrivals_of 0 (with_arrival held a))
  pub names : map (λ h. h.name) (with_arrival held a) ≡ map (λ h. h.name) held

names-changed : (f : SenderState → SenderState) → ((h : SenderState) → (f h).name ≡ h.name)
    → (i : ℕ) (held : List SenderState) → map (λ h. h.name) (changed_at i f held) ≡ map (λ h. h.name) held
names-changed f same i [] = refl
names-changed f same zero (h ∷ held) = ap (λ n. n ∷ map (λ h. h.name) held) (same h)
names-changed f same (suc i) (h ∷ held) = ap (λ ns. h.name ∷ ns) (names-changed f same i held)

pub steps : (held : List SenderState) (a : Arrival) → refusal held a ≡ None → StepsTo held a
steps held (Reply a) e =
    let t = TakesReply-from_refusal held a e in
    let at : a.sender ≡ 0 + a.sender = omega arith in
    record {
      well = λ well. AllWell-changed (with_reply a) a.sender 0 a.sender held t.sender at t.there
          (IsWell-with_reply a.sender t.sender a refl t.new) well;
      arrived = arrivals_of-changed (with_reply a) (Reply a) a.sender 0 a.sender held t.sender at t.there
          (part-with_reply a.sender t.sender a (none_of _ t.new.absent));
      names = names-changed (with_reply a) (λ h. refl) a.sender held;
    }
steps held (Close s count) e =
    let t = TakesClose-from_refusal held s count e in
    let at : s ≡ 0 + s = omega arith in
    record {
      well = λ well. AllWell-changed (with_close count) s 0 s held t.sender at t.there (IsWell-with_close s t.sender count t.fits) well;
      arrived = arrivals_of-changed (with_close count) (Close s count) s 0 s held t.sender at t.there
          (part-with_close s t.sender count t.first);
      names = names-changed (with_close count) (λ h. refl) s held;
    }

-- all arrivals, where none is refused
pub record RunsTo (held : List SenderState) (arrivals : List Arrival) (last : List SenderState) : Type 0 where
  pub well : AllWell 0 held → AllWell 0 last
  pub arrived : IsPermutation (arrivals_of 0 held ++ arrivals) (arrivals_of 0 last)
  pub names : map (λ h. h.name) last ≡ map (λ h. h.name) held

-- one arrival more that is held, or one more that is to come
pub moved : (held : List SenderState) (a : Arrival) (arrivals : List Arrival)
    → IsPermutation (a ∷ arrivals_of 0 held) (arrivals_of 0 (with_arrival held a))
    → IsPermutation (arrivals_of 0 held ++ a ∷ arrivals) (arrivals_of 0 (with_arrival held a) ++ arrivals)
moved held a arrivals p =
    IsPermutation-trans _ _ _ (IsPermutation-middle (arrivals_of 0 held) a arrivals)
    (IsPermutation-append_left arrivals (a ∷ arrivals_of 0 held) (arrivals_of 0 (with_arrival held a)) p)

pub runs : (held : List SenderState) (arrivals : List Arrival) (last : List SenderState)
    → after held arrivals ≡ Ok last → RunsTo held arrivals last
runs held [] last e =
    let same : held ≡ last = cc in
    subst (RunsTo held []) same
    (record {
      well = λ w. w;
      arrived = subst (λ xs. IsPermutation xs (arrivals_of 0 held)) (sym (append-nil (arrivals_of 0 held)))
          (IsPermutation-refl (arrivals_of 0 held));
      names = refl;
    })
runs held (a ∷ arrivals) last e = by (refusal held a) refl e (runs (with_arrival held a) arrivals last)
  where
    by : (o : Option Refused) → refusal held a ≡ o → after_first o (after (with_arrival held a) arrivals) ≡ Ok last
        → (after (with_arrival held a) arrivals ≡ Ok last → RunsTo (with_arrival held a) arrivals last) → RunsTo held (a ∷ arrivals) last
    by (Some why) r e rest = absurd (cc)
    by None r e rest =
        let one = steps held a r in
        let more = rest e in
        record {
          well = λ w. more.well (one.well w);
          arrived = IsPermutation-trans _ _ _ (moved held a arrivals one.arrived) more.arrived;
          names = more.names ∙ one.names;
        }

-- one arrival more at the end
pub after-push : (held : List SenderState) (arrivals : List Arrival) (mid : List SenderState) (a : Arrival)
    → after held arrivals ≡ Ok mid → refusal mid a ≡ None → after held (arrivals ++ a ∷ []) ≡ Ok (with_arrival mid a)
after-push held [] mid a e none =
    let same : held ≡ mid = cc in
    subst (λ h. after h (a ∷ []) ≡ Ok (with_arrival mid a)) (sym same) (ap (λ o. after_first o (Ok (with_arrival mid a))) none)
after-push held (x ∷ arrivals) mid a e none = by (refusal held x) refl e (after-push (with_arrival held x) arrivals mid a)
  where
    by : (o : Option Refused) → refusal held x ≡ o → after_first o (after (with_arrival held x) arrivals) ≡ Ok mid
        → (after (with_arrival held x) arrivals ≡ Ok mid → refusal mid a ≡ None
        → after (with_arrival held x) (arrivals ++ a ∷ []) ≡ Ok (with_arrival mid a))
        → after_first (refusal held x) (after (with_arrival held x) (arrivals ++ a ∷ [])) ≡ Ok (with_arrival mid a)
    by (Some why) r e rest = absurd (cc)
    by None r e rest = ap (λ o. after_first o (after (with_arrival held x) (arrivals ++ a ∷ []))) r ∙ rest e none
