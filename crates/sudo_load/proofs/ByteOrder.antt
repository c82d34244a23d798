-- A list has one order by the bytes of its elements.
use Rattle.std.proofs.Common.{◌≡◌, ℕ, suc, ◌+◌, ◌<◌, Bool, true, false, List, [], ◌∷◌, refl, sym, ◌∙◌, ap, subst, arith}
use Rattle.std.specs.Prelude.{⊤, bytes_eq, if◌then◌else◌, slice_index_or}
use Rattle.std.specs.List.{sum_by}
use Rattle.std.specs.List.Sorted.{IsSorted, IsPermutation}
use Rattle.std.specs.Cmp.Lexicographic.{slice_cmp}
use Rattle.std.specs.Ordering.{nat_cmp, is_lt, ordering_reverse}
use Rattle.std.specs.declared.cmp.Ordering.{Ordering}
use Rattle.std.specs.declared.cmp.Ordering.TheVariants.{Less, Equal, Greater}
use Rattle.std.specs.FinMap.{nat_cmp-IsAntisymmetric, slice_cmp-IsAntisymmetric}
use Rattle.std.proofs.lemmas.Cmp.{nat_list_cmp_total}
use Rattle.std.proofs.lemmas.List.Sums.{sum_by-cons}
use Rattle.std.proofs.lemmas.List.Sorted.{sum_by-IsPermutation}
use Rattle.std.proofs.lemmas.Slice.Eq.{bytes_eq-Decides}
use Rattle.std.proofs.lemmas.Bool.{true≢false}

-- by bytes
abbrev order : List ℕ → List ℕ → Ordering
order = slice_cmp nat_cmp

-- the first is not less than the second
abbrev NotLess : List ℕ → List ℕ → Type 0
NotLess a b = is_lt (order a b) ≡ false

-- each of them
abbrev Each : (List ℕ → Type 0) → List (List ℕ) → Type 0
Each P [] = ⊤
Each P (x ∷ xs) = P x × Each P xs

not_less_trans : (c b a : List ℕ) → NotLess c b → NotLess b a → NotLess c a
not_less_trans c b a cb ba = go (order c a) refl
  where
    refuted : order b a ≡ Less → ⊥
    refuted less = true≢false (sym (ap is_lt less) ∙ ba)

    by : (o : Ordering) → order c b ≡ o → order c a ≡ Less → ⊥
    by Less is less = true≢false (sym (ap is_lt is) ∙ cb)
    by Equal is less = refuted (sym (nat_list_cmp_total.congr c b a is) ∙ less)
    by Greater is less = refuted (nat_list_cmp_total.trans b c a (nat_list_cmp_total.antisymm b c ∙ ap ordering_reverse is) less)

    go : (o : Ordering) → order c a ≡ o → NotLess c a
    go Less is = absurd (by (order c b) refl is)
    go Equal is = ap is_lt is
    go Greater is = ap is_lt is

same_of : (a b : List ℕ) → NotLess a b → NotLess b a → a ≡ b
same_of a b ab ba = go (order a b) refl
  where
    go : (o : Ordering) → order a b ≡ o → a ≡ b
    go Less is = absurd (true≢false (sym (ap is_lt is) ∙ ab))
    go Equal is = slice_cmp-IsAntisymmetric nat_cmp-IsAntisymmetric a b is
    go Greater is = absurd (true≢false (sym (ap is_lt (nat_list_cmp_total.antisymm b a ∙ ap ordering_reverse is)) ∙ ba))

self : (a : List ℕ) → NotLess a a
self a = go (order a a) refl
  where
    go : (o : Ordering) → order a a ≡ o → NotLess a a
    go Less is =
        let other : order a a ≡ Greater = nat_list_cmp_total.antisymm a a ∙ ap ordering_reverse is in
        ap is_lt other
    go Equal is = ap is_lt is
    go Greater is = ap is_lt is

tail_sorted : (x : List ℕ) (xs : List (List ℕ)) → IsSorted order (x ∷ xs) → IsSorted order xs
tail_sorted x xs sorted = λ k d low high.
    let later : suc k + 1 ≡ suc (k + 1) = omega arith in
    subst (λ n. is_lt (order (slice_index_or (x ∷ xs) n d) (slice_index_or xs k d)) ≡ false) later
    (sorted (suc k) d (omega arith) (omega (arith, high)))

each : (x y : List ℕ) (ys : List (List ℕ)) → NotLess y x → Each (λ w. NotLess w y) ys → Each (λ w. NotLess w x) ys
each x y [] yx all = tt
each x y (z ∷ zs) yx all = (not_less_trans z y x all.0 yx, each x y zs yx all.1)

-- the first of a list in order is the least
least : (x : List ℕ) (xs : List (List ℕ)) → IsSorted order (x ∷ xs) → Each (λ w. NotLess w x) xs
least x [] sorted = tt
least x (y ∷ ys) sorted =
    let next : NotLess y x = sorted 0 x (omega arith) (omega arith) in
    (next, each x y ys next (least y ys (tail_sorted x (y ∷ ys) sorted)))

-- 1 for this name, and 0 for others
abbrev one_for : List ℕ → List ℕ → ℕ
one_for name x = if bytes_eq x name then 1 else 0

found : (name : List ℕ) (P : List ℕ → Type 0) (xs : List (List ℕ)) → Each P xs → 0 < sum_by (one_for name) xs → P name
found name P [] all some = absurd (omega (arith, some))
found name P (x ∷ xs) all some = go (bytes_eq x name) refl (subst (λ n. 0 < n) (sum_by-cons (one_for name) x xs) some)
    (found name P xs all.1)
  where
    go : (b : Bool) → bytes_eq x name ≡ b → 0 < (if b then 1 else 0) + sum_by (one_for name) xs
        → (0 < sum_by (one_for name) xs → P name) → P name
    go true is some later = subst P ((bytes_eq-Decides x name).0 is) all.0
    go false is some later = later (omega (arith, some))

-- they have as many of each, by any count
abbrev Alike : List (List ℕ) → List (List ℕ) → Type 0
Alike xs ys = (f : List ℕ → ℕ) → sum_by f xs ≡ sum_by f ys

there : (x : List ℕ) (xs : List (List ℕ)) → 0 < sum_by (one_for x) (x ∷ xs)
there x xs =
    let one : bytes_eq x x ≡ true = (bytes_eq-Decides x x).1 refl in
    let n : one_for x x ≡ 1 = ap (λ b. if b then 1 else 0) one in
    let whole : sum_by (one_for x) (x ∷ xs) ≡ one_for x x + sum_by (one_for x) xs = sum_by-cons (one_for x) x xs in
    omega (arith, n, whole)

not_below : (x y : List ℕ) (xs ys : List (List ℕ)) → IsSorted order (x ∷ xs) → Alike (x ∷ xs) (y ∷ ys) → NotLess y x
not_below x y xs ys sorted alike =
    found y (λ w. NotLess w x) (x ∷ xs) (self x, least x xs sorted) (subst (λ n. 0 < n) (sym (alike (one_for y))) (there y ys))

swapped : (xs ys : List (List ℕ)) → Alike xs ys → Alike ys xs
swapped xs ys alike = λ f. sym (alike f)

no_more : (n : ℕ) → 0 ≡ 1 + n → ⊥
no_more n e = omega (arith, e)

pub one_order : (xs ys : List (List ℕ)) → IsSorted order xs → IsSorted order ys → Alike xs ys → xs ≡ ys
one_order [] [] sorted other alike = refl
one_order [] (y ∷ ys) sorted other alike = absurd (no_more (sum_by (λ w. 1) ys) (alike (λ w. 1) ∙ sum_by-cons (λ w. 1) y ys))
one_order (x ∷ xs) [] sorted other alike = absurd (no_more (sum_by (λ w. 1) xs) (sym (alike (λ w. 1)) ∙ sum_by-cons (λ w. 1) x xs))
one_order (x ∷ xs) (y ∷ ys) sorted other alike =
    let first : x ≡ y = same_of x y (not_below y x ys xs other (swapped (x ∷ xs) (y ∷ ys) alike)) (not_below x y xs ys sorted alike) in
    let more : Alike xs ys = λ f. (let same : f x ≡ f y = ap f first in
    let whole : f x + sum_by f xs ≡ f y + sum_by f ys = sym (sum_by-cons f x xs)
    ∙ (alike f ∙ sum_by-cons f y ys) in omega (arith, same, whole)) in
    ap (λ a. a ∷ xs) first ∙ ap (λ rest. y ∷ rest) (one_order xs ys (tail_sorted x xs sorted) (tail_sorted y ys other) more)

pub one_sorted : (names a b : List (List ℕ)) → IsPermutation names a → IsSorted (slice_cmp nat_cmp) a
    → IsPermutation names b → IsSorted (slice_cmp nat_cmp) b → a ≡ b
one_sorted names a b moved sorted moved2 sorted2 =
    one_order a b sorted sorted2 (λ f. sum_by-IsPermutation f names a moved ∙ sym (sum_by-IsPermutation f names b moved2))
