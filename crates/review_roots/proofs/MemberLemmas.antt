-- Items of lists: of those that are mapped and joined, of those that are filtered, and the first of a kind.
use Rattle.std.proofs.Common.{◌≡◌, ◌<◌, ◌+◌, ◌∙◌, ℕ, zero, suc, Bool, true, false, cond, List, [], ◌∷◌, ◌++◌, ap, arith}
use Rattle.std.proofs.Common.{flat_map, refl, subst, sym, Some, None, inl, inr, ◌⊎◌}
use Rattle.std.specs.Prelude.{All, filter, find, slice_get}
use Rattle.std.specs.List.{Contains, list_any, range_with_len}
use Rattle.std.proofs.lemmas.List.Elements.{All-contains_itself, All-weaker}
use Rattle.std.proofs.lemmas.List.Elements.{Contains-append_left, Contains-append_right, filter-append}
use Rattle.std.proofs.lemmas.List.Folds.{list_any-append}
use Rattle.review_grants.proofs.ItemLemmas.{neither}
use Rattle.review_grants.proofs.ListSteps.{range-more}
use Rattle.review_roots.proofs.SearchLemmas.{at-contains, contains-at, contains-cons, contains-head, get-append-cases}

-- what holds of each item holds of all
pub all-of : {X : Type 0} (P : X → Type 0) (xs : List X) → ((x : X) → Contains xs x → P x) → All P xs
all-of P xs each = All-weaker (Contains xs) P each xs (All-contains_itself xs)

-- an item of two lists end to end is one of the first, or of the second
pub from-append : {X : Type 0} (xs ys : List X) (x : X) → Contains (xs ++ ys) x → Contains xs x ⊎ Contains ys x
from-append xs ys x h =
    let k = contains-at (xs ++ ys) x h in
    elim (get-append-cases xs ys k.0 x k.1) [
      | inl old ↦ inl (at-contains xs x k.0 old)
      | inr new ↦ inr new.1
    ]

-- an item of lists end to end is one of them
pub from-flat : {X Y : Type 0} (f : X → List Y) (xs : List X) (y : Y) → Contains (flat_map f xs) y
    → (x : X) × (Contains xs x × Contains (f x) y)
from-flat f [] y h = absurd (omega (arith, h.1))
from-flat {X} {Y} f (x ∷ xs) y h = go (from-append (f x) (flat_map f xs) y h) (from-flat f xs y)
  where
    go : Contains (f x) y ⊎ Contains (flat_map f xs) y
        → (Contains (flat_map f xs) y → (z : X) × (Contains xs z × Contains (f z) y))
        → (z : X) × (Contains (x ∷ xs) z × Contains (f z) y)
    go (inl here) rest = (x, (contains-head x xs x refl, here))
    go (inr behind) rest = let r = rest behind in (r.0, (contains-cons x xs r.0 r.1.0, r.1.1))

pub to-flat : {X Y : Type 0} (f : X → List Y) (xs : List X) (x : X) (y : Y) → Contains xs x → Contains (f x) y
    → Contains (flat_map f xs) y
to-flat f xs x y inside has = let k = contains-at xs x inside in at xs k.0 k.1
  where
    at : (xs : List _) (k : ℕ) → slice_get xs k ≡ Some x → Contains (flat_map f xs) y
    at [] k e = cc
    at (z ∷ zs) zero e =
        let same : z ≡ x = cc in
        Contains-append_left (f z) (flat_map f zs) y (subst (λ w. Contains (f w) y) (sym same) has)
    at (z ∷ zs) (suc k) e = Contains-append_right (f z) (flat_map f zs) y (at zs k e)

-- two lists for each item that are the same are the same end to end
pub flat-same : {X Y : Type 0} (f g : X → List Y) (xs : List X) → ((x : X) → Contains xs x → f x ≡ g x) → flat_map f xs ≡ flat_map g xs
flat-same f g [] same = refl
flat-same f g (x ∷ xs) same =
    ap (λ (ys : List _). ys ++ flat_map f xs) (same x (contains-head x xs x refl))
    ∙ ap (λ (ys : List _). g x ++ ys) (flat-same f g xs (λ y h. same y (contains-cons x xs y h)))

-- what no item of lists end to end passes, no item of each passes
pub none-in : {X Y : Type 0} (t : Y → Bool) (f : X → List Y) (xs : List X) (x : X) → list_any t (flat_map f xs) ≡ false
    → Contains xs x → list_any t (f x) ≡ false
none-in t f xs x none inside = let k = contains-at xs x inside in at xs k.0 k.1 none
  where
    at : (xs : List _) (k : ℕ) → slice_get xs k ≡ Some x → list_any t (flat_map f xs) ≡ false → list_any t (f x) ≡ false
    at [] k e none = cc
    at (y ∷ ys) zero e none =
        let both = neither (list_any t (f y)) (list_any t (flat_map f ys)) (sym (list_any-append t (f y) (flat_map f ys)) ∙ none) in
        let same : y ≡ x = cc in ap (λ v. list_any t (f v)) (sym same) ∙ both.0
    at (y ∷ ys) (suc k) e none =
        let both = neither (list_any t (f y)) (list_any t (flat_map f ys)) (sym (list_any-append t (f y) (flat_map f ys)) ∙ none) in
        at ys k e both.1

-- no item of a list passes that one of its items does not
pub none-there : {X : Type 0} (t : X → Bool) (xs : List X) (x : X) → list_any t xs ≡ false → Contains xs x → t x ≡ false
none-there t xs x none inside = let k = contains-at xs x inside in at xs k.0 k.1 none
  where
    at : (xs : List _) (k : ℕ) → slice_get xs k ≡ Some x → list_any t xs ≡ false → t x ≡ false
    at [] k e none = cc
    at (y ∷ ys) zero e none = let same : y ≡ x = cc in ap t (sym same) ∙ (neither (t y) (list_any t ys) none).0
    at (y ∷ ys) (suc k) e none = at ys k e (neither (t y) (list_any t ys) none).1

-- the first item that passes is there and passes; without one none does
pub find-there : {X : Type 0} (t : X → Bool) (xs : List X) (x : X) → find t xs ≡ Some x → Contains xs x × (t x ≡ true)
find-there t [] x e = cc
find-there t (y ∷ ys) x e = go (t y) refl e (find-there t ys x)
  where
    go : (b : Bool) → t y ≡ b → cond b (Some y) (find t ys) ≡ Some x → (find t ys ≡ Some x → Contains ys x × (t x ≡ true))
        → Contains (y ∷ ys) x × (t x ≡ true)
    go true is e rest = let same : y ≡ x = cc in (contains-head y ys x same, ap t (sym same) ∙ is)
    go false is e rest = let r = rest e in (contains-cons y ys x r.0, r.1)

pub find-none : {X : Type 0} (t : X → Bool) (xs : List X) (x : X) → find t xs ≡ None → Contains xs x → t x ≡ false
find-none t xs x e inside = let k = contains-at xs x inside in at xs k.0 k.1 e
  where
    at : (xs : List _) (k : ℕ) → slice_get xs k ≡ Some x → find t xs ≡ None → t x ≡ false
    at [] k g e = cc
    at (y ∷ ys) zero g e = let same : y ≡ x = cc in first (t y) refl same e
      where
        first : (b : Bool) → t y ≡ b → y ≡ x → cond b (Some y) (find t ys) ≡ None → t x ≡ false
        first true is same e = cc
        first false is same e = ap t (sym same) ∙ is
    at (y ∷ ys) (suc k) g e = behind (t y) e (at ys k g)
      where
        behind : (b : Bool) → cond b (Some y) (find t ys) ≡ None → (find t ys ≡ None → t x ≡ false) → t x ≡ false
        behind true e rest = cc
        behind false e rest = rest e

-- the numbers of a range
pub in-range : (n i : ℕ) → Contains (range_with_len 0 n) i → i < n
in-range n i h = let k = contains-at (range_with_len 0 n) i h in let r = at 0 n k.0 k.1 in omega (arith, r)
  where
    at : (a n k : ℕ) → slice_get (range_with_len a n) k ≡ Some i → i < a + n
    at a zero k e = cc
    at a (suc n) zero e = let same : a ≡ i = cc in omega (arith, same)
    at a (suc n) (suc k) e = let r = at (a + 1) n k e in omega (arith, r)

-- one number more of a filtered range
pub filter-range : (t : ℕ → Bool) (n : ℕ) → filter t (range_with_len 0 (n + 1)) ≡ filter t (range_with_len 0 n) ++ cond (t n) (n ∷ []) []
filter-range t n =
    ap (λ k. filter t (range_with_len 0 k)) (let e : n + 1 ≡ suc n = omega arith in e)
    ∙ ap (filter t) (range-more 0 n) ∙ filter-append t (range_with_len 0 n) ((0 + n) ∷ [])
    ∙ ap (λ k. filter t (range_with_len 0 n) ++ cond (t k) (k ∷ []) []) (let e : 0 + n ≡ n = omega arith in e)
