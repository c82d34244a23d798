-- The answers with a number in a released list and in waiting entries.
use Rattle.std.proofs.Common.{◌≡◌, ℕ, zero, suc, ◌+◌, ◌<◌, ◌≤◌, Bool, true, false, cond, List, [], ◌∷◌, ◌++◌}
use Rattle.std.proofs.Common.{length, Option, None, Some, slice_get, is_some, nat_eq, refl, sym, ap, ◌∙◌, arith, ◌≢◌}
use Rattle.std.proofs.lemmas.Bool.Decides.{nat_tests}
use Rattle.std.specs.Ordering.{nat_cmp, eq_by_cmp}
use Rattle.std.specs.Cmp.{nat_cmp_total}
use Rattle.std.specs.List.{enumerate_from}
use Rattle.std.specs.Option.{option_or}
use Rattle.audit_collect.specs.declared.arrival.Answer.{Answer}
use Rattle.audit_collect.specs.Body.Answers.{answers_of, answer_at, released_at, waiting_at}
use Rattle.std.proofs.lemmas.Bool.{false≢true}
use Rattle.std.specs.FinMap.{find, get, get-from_entries, get-insert, insert, contains_key, same_map, nat_cmp-IsAntisymmetric}
use Rattle.std.proofs.lemmas.Option.{slice_get_past}

-- the order ties equal numbers alone
pub ties : (q x : ℕ) → eq_by_cmp nat_cmp q x ≡ nat_eq q x
ties q x = grind (arith, nat_tests)

pub ties_same : (q x : ℕ) → q ≡ x → eq_by_cmp nat_cmp q x ≡ true
ties_same q x e = grind (arith, nat_tests)

pub ties_other : (q x : ℕ) → q ≢ x → eq_by_cmp nat_cmp q x ≡ false
ties_other q x e = grind (arith, nat_tests)

find-append : (q : ℕ) (xs ys : List (ℕ × Answer)) → find nat_cmp q (xs ++ ys) ≡ option_or (find nat_cmp q xs) (find nat_cmp q ys)
find-append q [] ys = refl
find-append q (e ∷ xs) ys =
    elim (eq_by_cmp nat_cmp q e.0) as (λ b. cond b (Some e.1) (find nat_cmp q (xs ++ ys)) ≡ option_or
    (cond b (Some e.1) (find nat_cmp q xs)) (find nat_cmp q ys)) [
      | true ↦ refl
      | false ↦ find-append q xs ys
    ]

-- a scan of a hash map's entries finds the same
find-is-lookup : (q : ℕ) (es : List (ℕ × Answer)) → find nat_cmp q es ≡ waiting_at es q
find-is-lookup q [] = refl
find-is-lookup q (e ∷ es) = ap (λ b. cond b (Some e.1) (find nat_cmp q es)) (ties q e.0)
    ∙ ap (cond (nat_eq q e.0) (Some e.1)) (find-is-lookup q es)

find-enumerate_from_below : (q n : ℕ) (xs : List Answer) → q < n → find nat_cmp q (enumerate_from n xs) ≡ None
find-enumerate_from_below q n [] h = refl
find-enumerate_from_below q n (x ∷ xs) h =
    let other : q ≢ n = omega arith in
    ap (λ b. cond b (Some x) (find nat_cmp q (enumerate_from (n + 1) xs))) (ties_other q n other)
    ∙ find-enumerate_from_below q (n + 1) xs (omega arith)

find-enumerate_from : (n : ℕ) (xs : List Answer) (q i : ℕ) → q ≡ n + i → find nat_cmp q (enumerate_from n xs) ≡ slice_get xs i
find-enumerate_from n [] q i e = refl
find-enumerate_from n (x ∷ xs) q zero e =
    let same : q ≡ n = omega arith in
    ap (λ b. cond b (Some x) (find nat_cmp q (enumerate_from (n + 1) xs))) (ties_same q n same)
find-enumerate_from n (x ∷ xs) q (suc i) e =
    let other : q ≢ n = omega arith in
    ap (λ b. cond b (Some x) (find nat_cmp q (enumerate_from (n + 1) xs))) (ties_other q n other)
    ∙ find-enumerate_from (n + 1) xs q i (omega arith)

find-numbered : (xs : List Answer) (q : ℕ) → find nat_cmp q (enumerate_from 1 xs) ≡ released_at xs q
find-numbered xs zero = find-enumerate_from_below zero 1 xs (omega arith)
find-numbered xs (suc i) = find-enumerate_from 1 xs (suc i) i (omega arith)

-- the answers at a number: those of the list, from 1, and else those of the entries
pub get-answers_of : (xs : List Answer) (es : List (ℕ × Answer)) (q : ℕ) → get (answers_of xs es) q ≡ answer_at xs es q
get-answers_of xs es q =
    get-from_entries nat_cmp_total (enumerate_from 1 xs ++ es) q ∙ find-append q (enumerate_from 1 xs) es
    ∙ (λ j. option_or (find-numbered xs q j) (find-is-lookup q es j))

pub slice_get_within : (ys : List Answer) (i : ℕ) → i < length ys → is_some (slice_get ys i) ≡ true
slice_get_within [] i k = absurd (omega arith)
slice_get_within (y ∷ ys) zero k = refl
slice_get_within (y ∷ ys) (suc i) k = slice_get_within ys i (omega arith)

pub released_at-within : (xs : List Answer) (q : ℕ) → 1 ≤ q → q ≤ length xs → is_some (released_at xs q) ≡ true
released_at-within xs zero h k = absurd (omega arith)
released_at-within xs (suc i) h k = slice_get_within xs i (omega arith)

pub released_at-past : (xs : List Answer) (q : ℕ) → length xs < q → released_at xs q ≡ None
released_at-past xs zero h = absurd (omega arith)
released_at-past xs (suc i) h = slice_get_past xs i (omega arith)

is_some-option_or : {A : Type 0} (o p : Option A) → is_some o ≡ true → is_some (option_or o p) ≡ true
is_some-option_or None p h = absurd (false≢true h)
is_some-option_or (Some x) p h = refl

-- a number up to the length of the released list was accepted
pub contains_key-released : (xs : List Answer) (es : List (ℕ × Answer)) (q : ℕ) → 1 ≤ q → q ≤ length xs
    → contains_key (answers_of xs es) q ≡ true
contains_key-released xs es q h k = ap is_some (get-answers_of xs es q)
    ∙ is_some-option_or (released_at xs q) (waiting_at es q) (released_at-within xs q h k)

-- another one was accepted where it waits
pub contains_key-waiting : (xs : List Answer) (es : List (ℕ × Answer)) (q : ℕ) → length xs < q
    → contains_key (answers_of xs es) q ≡ is_some (waiting_at es q)
contains_key-waiting xs es q h = ap is_some (get-answers_of xs es q)
    ∙ ap (λ o. is_some (option_or o (waiting_at es q))) (released_at-past xs q h)

slice_get-push : (xs : List Answer) (a : Answer) (i : ℕ) → slice_get (xs ++ a ∷ []) i ≡ cond (nat_eq i (length xs))
    (Some a) (slice_get xs i)
slice_get-push [] a zero = refl
slice_get-push [] a (suc i) =
    let e : false ≡ nat_eq (suc i) 0 = grind (arith, nat_tests) in
    ap (λ b. cond b (Some a) None) e
slice_get-push (x ∷ xs) a zero =
    let e : false ≡ nat_eq 0 (length (x ∷ xs)) = grind (arith, nat_tests) in
    ap (λ b. cond b (Some a) (Some x)) e
slice_get-push (x ∷ xs) a (suc i) =
    let e : nat_eq i (length xs) ≡ nat_eq (suc i) (length (x ∷ xs)) = grind (arith, nat_tests) in
    slice_get-push xs a i ∙ ap (λ b. cond b (Some a) (slice_get xs i)) e

pub released_at-push : (xs : List Answer) (a : Answer) (q : ℕ)
    → released_at (xs ++ a ∷ []) q ≡ cond (nat_eq q (length xs + 1)) (Some a) (released_at xs q)
released_at-push xs a zero =
    let e : false ≡ nat_eq 0 (length xs + 1) = grind (arith, nat_tests) in
    ap (λ b. cond b (Some a) None) e
released_at-push xs a (suc i) =
    let e : nat_eq i (length xs) ≡ nat_eq (suc i) (length xs + 1) = grind (arith, nat_tests) in
    slice_get-push xs a i ∙ ap (λ b. cond b (Some a) (slice_get xs i)) e

-- two pairs of a list and of entries with the same answers, except for one more in the second,
-- represent maps that differ by it
pub answers_of-inserted : (xs ys : List Answer) (es fs : List (ℕ × Answer)) (n : ℕ) (a : Answer)
    → ((q : ℕ) → answer_at ys fs q ≡ cond (nat_eq q n) (Some a) (answer_at xs es q)) → answers_of ys fs ≡ insert (answers_of xs es) n a
answers_of-inserted xs ys es fs n a h = same_map nat_cmp_total nat_cmp-IsAntisymmetric _ _ (λ q.
    get-answers_of ys fs q ∙ h q ∙ ap (λ b. cond b (Some a) (answer_at xs es q)) (sym (ties q n))
    ∙ ap (cond (eq_by_cmp nat_cmp q n) (Some a)) (sym (get-answers_of xs es q)) ∙ sym (get-insert nat_cmp_total (answers_of xs es) n a q))

-- an answer that moves from the entries to the end of the list stays where it was
pub answer_at-moved : (xs : List Answer) (es fs : List (ℕ × Answer)) (n : ℕ) (a : Answer) → n ≡ length xs + 1 → waiting_at es n ≡ Some a
    → ((q : ℕ) → waiting_at fs q ≡ cond (nat_eq n q) None (waiting_at es q)) → (q : ℕ) → answer_at (xs ++ a ∷ []) fs q ≡ answer_at xs es q
answer_at-moved xs es fs n a next there gone q =
    ap (λ o. option_or o (waiting_at fs q)) (released_at-push xs a q)
    ∙ ap (option_or (cond (nat_eq q (length xs + 1)) (Some a) (released_at xs q))) (gone q)
    ∙ by (nat_eq q (length xs + 1)) refl
  where
    by : (b : Bool) → nat_eq q (length xs + 1) ≡ b
        → option_or (cond (nat_eq q (length xs + 1)) (Some a) (released_at xs q))
        (cond (nat_eq n q) None (waiting_at es q)) ≡ answer_at xs es q
    by true e =
        let same : q ≡ n = grind (arith, nat_tests) in
        let past = released_at-past xs q (omega arith) in
        let back : nat_eq n q ≡ true = grind (arith, nat_tests) in
        (λ j. option_or (cond (e j) (Some a) (released_at xs q)) (cond (back j) None (waiting_at es q)))
        ∙ sym (ap (λ o. option_or o (waiting_at es q)) past ∙ ap (waiting_at es) same ∙ there)
    by false e =
        let back : nat_eq n q ≡ false = grind (arith, nat_tests) in
        (λ j. option_or (cond (e j) (Some a) (released_at xs q)) (cond (back j) None (waiting_at es q)))

-- the entries without one number
module _ (es fs : List (ℕ × Answer)) (n : ℕ) (gone : (q : ℕ) → waiting_at fs q ≡ cond (nat_eq n q) None (waiting_at es q)) where
  pub waiting_at-gone : (q : ℕ) → (q ≢ n → waiting_at es q ≡ None) → waiting_at fs q ≡ None
  waiting_at-gone q h = gone q ∙ by (nat_eq n q) refl
    where
      by : (b : Bool) → nat_eq n q ≡ b → cond (nat_eq n q) None (waiting_at es q) ≡ None
      by true e = ap (λ b. cond b None (waiting_at es q)) e
      by false e =
          let other : q ≢ n = grind (arith, nat_tests) in
          ap (λ b. cond b None (waiting_at es q)) e ∙ h other

  pub waiting_at-others : (q : ℕ) → q ≢ n → waiting_at fs q ≡ waiting_at es q
  waiting_at-others q h =
      let other : nat_eq n q ≡ false = grind (arith, nat_tests) in
      gone q ∙ ap (λ b. cond b None (waiting_at es q)) other

-- an answer with a later number goes to the entries
pub answer_at-waits : (xs : List Answer) (es fs : List (ℕ × Answer)) (n : ℕ) (a : Answer) → length xs < n
    → ((q : ℕ) → waiting_at fs q ≡ cond (nat_eq n q) (Some a) (waiting_at es q)) → (q : ℕ)
    → answer_at xs fs q ≡ cond (nat_eq q n) (Some a) (answer_at xs es q)
answer_at-waits xs es fs n a past put q = ap (option_or (released_at xs q)) (put q) ∙ by (nat_eq q n) refl
  where
    by : (b : Bool) → nat_eq q n ≡ b → option_or (released_at xs q) (cond (nat_eq n q) (Some a) (waiting_at es q))
        ≡ cond (nat_eq q n) (Some a) (answer_at xs es q)
    by true e =
        let same : q ≡ n = grind (arith, nat_tests) in
        let back : nat_eq n q ≡ true = grind (arith, nat_tests) in
        (λ j. option_or (released_at-past xs q (omega arith) j) (cond (back j) (Some a) (waiting_at es q)))
        ∙ sym (ap (λ b. cond b (Some a) (answer_at xs es q)) e)
    by false e =
        let back : nat_eq n q ≡ false = grind (arith, nat_tests) in
        (λ j. option_or (released_at xs q) (cond (back j) (Some a) (waiting_at es q)))
        ∙ sym (ap (λ b. cond b (Some a) (answer_at xs es q)) e)

-- where the answers are the same, the maps are
pub answers_of-same : (xs ys : List Answer) (es fs : List (ℕ × Answer))
    → ((q : ℕ) → answer_at ys fs q ≡ answer_at xs es q) → answers_of ys fs ≡ answers_of xs es
answers_of-same xs ys es fs h = same_map nat_cmp_total nat_cmp-IsAntisymmetric _ _ (λ q. get-answers_of ys fs q ∙ h q
    ∙ sym (get-answers_of xs es q))
