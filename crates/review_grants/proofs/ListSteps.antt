-- Lists that a loop goes over, one item further; and lists that are filtered and mapped.
use Rattle.std.proofs.Common.{◌≡◌, ◌≤◌, ◌<◌, ◌+◌, ◌∙◌, ℕ, zero, suc, Bool, true, false, cond, ◌&&◌, List, [], ◌∷◌, ◌++◌, ap, append-nil}
use Rattle.std.proofs.Common.{append_assoc, arith, drop, flat_map, get_or, length, map, refl, slice_index_or, sym, take}
use Rattle.std.specs.Prelude.{filter}
use Rattle.std.specs.List.{enumerate_from, list_all, range_with_len}
use Rattle.std.proofs.lemmas.Bool.{and_parts}
use Rattle.std.proofs.lemmas.Grind.{flat_map-append}
use Rattle.std.proofs.lemmas.List.{take-append-drop}
use Rattle.std.proofs.lemmas.List.Folds.{list_all-append}
use Rattle.std.proofs.lemmas.List.FromFn.{length-enumerate_from, get_or-enumerate_from}
use lib.Seq.{take-suc}

pub take-more : {X : Type 0} (xs : List X) (at : ℕ) (x : X) → at < length xs → x ≡ get_or xs at x
    → take (at + 1) xs ≡ take at xs ++ x ∷ []
take-more xs at x within is =
    let on : at + 1 ≡ suc at = omega arith in
    ap (λ n. take n xs) on ∙ take-suc xs at x within ∙ ap (λ y. take at xs ++ y ∷ []) (sym is)

-- one more item's text behind the text of those before
pub flat_map-next : {X : Type 0} (f : X → List ℕ) (xs : List X) (at : ℕ) (x : X) (old text new : List ℕ) → at < length xs
    → x ≡ get_or xs at x → text ≡ old ++ flat_map f (take at xs) → new ≡ text ++ f x
    → new ≡ old ++ flat_map f (take (at + 1) xs)
flat_map-next f xs at x old text new within is so_far more =
    let own : flat_map f (take (at + 1) xs) ≡ flat_map f (take at xs) ++ f x =
    ap (flat_map f) (take-more xs at x within is) ∙ flat_map-append f (take at xs) (x ∷ [])
    ∙ ap (λ (t : List ℕ). flat_map f (take at xs) ++ t) (append-nil (f x)) in
    more ∙ ap (λ (t : List ℕ). t ++ f x) so_far ∙ append_assoc old (flat_map f (take at xs)) (f x)
    ∙ ap (λ (t : List ℕ). old ++ t) (sym own)

pub take-whole : {X : Type 0} (xs : List X) (n : ℕ) → length xs ≤ n → take n xs ≡ xs
take-whole [] zero past = refl
take-whole [] (suc n) past = refl
take-whole (x ∷ xs) zero past = absurd (omega (arith, past))
take-whole (x ∷ xs) (suc n) past = ap (λ (ys : List _). x ∷ ys) (take-whole xs n (omega (arith, past)))

-- what holds of each item of a list holds of one of them
pub all-at : {X : Type 0} (f : X → Bool) (xs : List X) (at : ℕ) (x : X) → list_all f xs ≡ true → at < length xs
    → x ≡ get_or xs at x → f x ≡ true
all-at f [] at x all within is = absurd (omega (arith, within))
all-at f (y ∷ ys) zero x all within is = ap f is ∙ (and_parts (f y) (list_all f ys) all).0
all-at f (y ∷ ys) (suc at) x all within is = all-at f ys at x (and_parts (f y) (list_all f ys) all).1 (omega (arith, within)) is

-- an item that is there
pub index-there : {X : Type 0} (xs : List X) (at : ℕ) (other : X) → at < length xs
    → slice_index_or xs at other ≡ get_or xs at (slice_index_or xs at other)
index-there [] at other within = absurd (omega (arith, within))
index-there (x ∷ xs) zero other within = refl
index-there (x ∷ xs) (suc at) other within = index-there xs at other (omega (arith, within))

pub take-enumerated : {X : Type 0} (xs : List X) (at : ℕ) (x : X) → at < length xs → x ≡ get_or xs at x
    → take (at + 1) (enumerate_from 0 xs) ≡ take at (enumerate_from 0 xs) ++ (at, x) ∷ []
take-enumerated {X} xs at x within is =
    take-more (enumerate_from 0 xs) at (at, x) (omega (arith, within, length-enumerate_from 0 xs))
    (sym (get_or-enumerate_from 0 xs at (at, x) within
    ∙ (let n : 0 + at ≡ at = omega arith in ap (λ (i : ℕ). let p : ℕ × X = (i, get_or xs at x) in p) n)
    ∙ ap (λ (y : X). let p : ℕ × X = (at, y) in p) (sym is)))

pub flat-one : {X Y : Type 0} (f : X → List Y) (xs : List X) (x : X) → flat_map f (xs ++ x ∷ []) ≡ flat_map f xs ++ f x
flat-one f xs x = flat_map-append f xs (x ∷ []) ∙ ap (λ (ys : List _). flat_map f xs ++ ys) (append-nil (f x))

pub all-push : {X : Type 0} (t : X → Bool) (xs : List X) (x : X) → list_all t xs ≡ true → t x ≡ true → list_all t (xs ++ x ∷ []) ≡ true
all-push t xs x all one =
    list_all-append t xs (x ∷ []) ∙ ap (λ b. b && list_all t (x ∷ [])) all ∙ ap (λ b. b && true) one

-- what holds of all holds of the first ones, and of each
pub all-taken : {X : Type 0} (t : X → Bool) (n : ℕ) (xs : List X) → list_all t xs ≡ true → list_all t (take n xs) ≡ true
all-taken t n xs all =
    (and_parts (list_all t (take n xs)) (list_all t (drop n xs))
    (sym (list_all-append t (take n xs) (drop n xs)) ∙ ap (list_all t) (take-append-drop n xs) ∙ all)).0

pub all-there : {X : Type 0} (t : X → Bool) (xs : List X) (at : ℕ) (x : X) → at < length xs → x ≡ get_or xs at x → list_all t xs ≡ true
    → t x ≡ true
all-there t xs at x within is all =
    (and_parts (t x) true
    (and_parts (list_all t (take at xs)) (list_all t (x ∷ []))
    (sym (list_all-append t (take at xs) (x ∷ [])) ∙ ap (list_all t) (sym (take-more xs at x within is))
    ∙ all-taken t (at + 1) xs all)).1).0

-- a filter whose test is the same for each item
pub filter-constant : {X Y : Type 0} (t : Y → Bool) (f : X → Y) (b : Bool) → ((x : X) → t (f x) ≡ b) → (xs : List X)
    → filter t (map f xs) ≡ cond b (map f xs) []
filter-constant t f true same [] = refl
filter-constant t f false same [] = refl
filter-constant t f true same (x ∷ xs) =
    ap (λ b. cond b (f x ∷ filter t (map f xs)) (filter t (map f xs))) (same x) ∙ ap (λ ys. f x ∷ ys) (filter-constant t f true same xs)
filter-constant t f false same (x ∷ xs) =
    ap (λ b. cond b (f x ∷ filter t (map f xs)) (filter t (map f xs))) (same x) ∙ filter-constant t f false same xs

pub filter-mapped : {X Y : Type 0} (t : Y → Bool) (f : X → Y) (xs : List X) → filter t (map f xs) ≡ map f (filter (λ x. t (f x)) xs)
filter-mapped t f [] = refl
filter-mapped {X} {Y} t f (x ∷ xs) = go (t (f x)) (filter-mapped t f xs)
  where
    go : (b : Bool) → filter t (map f xs) ≡ map f (filter (λ x. t (f x)) xs)
        → cond b (f x ∷ filter t (map f xs)) (filter t (map f xs))
        ≡ map f (cond b (x ∷ filter (λ x. t (f x)) xs) (filter (λ x. t (f x)) xs))
    go true e = ap (λ ys. f x ∷ ys) e
    go false e = e

pub map-same : {X Y : Type 0} (f g : X → Y) → ((x : X) → f x ≡ g x) → (xs : List X) → map f xs ≡ map g xs
map-same f g same [] = refl
map-same f g same (x ∷ xs) = ap (λ y. y ∷ map f xs) (same x) ∙ ap (λ ys. g x ∷ ys) (map-same f g same xs)

pub map-twice : {X Y Z : Type 0} (f : Y → Z) (g : X → Y) (xs : List X) → map f (map g xs) ≡ map (λ x. f (g x)) xs
map-twice f g [] = refl
map-twice f g (x ∷ xs) = ap (λ ys. f (g x) ∷ ys) (map-twice f g xs)

pub range-more : (a n : ℕ) → range_with_len a (suc n) ≡ range_with_len a n ++ (a + n) ∷ []
range-more a zero = ap (λ k. k ∷ []) (let e : a ≡ a + 0 = omega arith in e)
range-more a (suc n) =
    ap (λ (ks : List ℕ). a ∷ ks)
    (range-more (a + 1) n ∙ ap (λ k. range_with_len (a + 1) n ++ k ∷ []) (let e : (a + 1) + n ≡ a + suc n = omega arith in e))

-- one index more
pub flat-range : {X : Type 0} (f : ℕ → List X) (n : ℕ) → flat_map f (range_with_len 0 (n + 1)) ≡ flat_map f (range_with_len 0 n) ++ f n
flat-range f n =
    ap (λ k. flat_map f (range_with_len 0 k)) (let e : n + 1 ≡ suc n = omega arith in e)
    ∙ ap (flat_map f) (range-more 0 n) ∙ flat-one f (range_with_len 0 n) (0 + n)
    ∙ ap (λ k. flat_map f (range_with_len 0 n) ++ f k) (let e : 0 + n ≡ n = omega arith in e)
