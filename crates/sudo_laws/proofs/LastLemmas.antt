-- The last item of a list that passes a test, by the items after it.
use Rattle.std.proofs.Common.{◌≡◌, ℕ, zero, suc, ◌<◌, ◌≤◌, Bool, true, false, cond, List, [], ◌∷◌, ◌++◌, map, take}
use Rattle.std.proofs.Common.{Option, Some, None, refl, sym, ◌∙◌, ap, flat_map, arith}
use Rattle.std.specs.Prelude.{slice_get}
use Rattle.std.specs.Option.{option_or}
use Rattle.std.proofs.lemmas.List.{map-append}
use Rattle.sudo_laws.proofs.TestLemmas.{Each, each_first, each_rest}
use Rattle.sudo_policy.proofs.SurveyLemmas.{option_or-none}
use Rattle.sudo_verdict.proofs.Lasts.{option_or-assoc, last_that-append}
use Rattle.sudo_verdict.specs.Last.{last_that, last_set}

pub last_that-none : {X : Type 0} (f : X → Bool) (xs : List X) → Each f false xs → last_that f xs ≡ None
last_that-none f [] none = refl
last_that-none f (x ∷ xs) none =
    ap (λ o. option_or o (cond (f x) (Some x) None)) (last_that-none f xs (each_rest f false x xs none))
    ∙ ap (λ b. cond b (Some x) None) (each_first f false x xs none)

pub last_that-there : {X : Type 0} (f : X → Bool) (before after : List X) (x : X) → f x ≡ true
    → Each f false after → last_that f (before ++ x ∷ after) ≡ Some x
last_that-there f before after x here none =
    last_that-append f before (x ∷ after)
    ∙ ap (λ o. option_or (option_or o (cond (f x) (Some x) None)) (last_that f before)) (last_that-none f after none)
    ∙ ap (λ b. option_or (cond b (Some x) None) (last_that f before)) here

pub last_set-append : {X : Type 0} (xs ys : List (Option X)) → last_set (xs ++ ys) ≡ option_or (last_set ys) (last_set xs)
last_set-append [] ys = sym (option_or-none (last_set ys))
last_set-append (x ∷ xs) ys = ap (λ r. option_or r x) (last_set-append xs ys) ∙ option_or-assoc (last_set ys) (last_set xs) x

pub last_set-none : {X Y : Type 0} (f : X → Option Y) (xs : List X) → Each f None xs → last_set (map f xs) ≡ None
last_set-none f [] none = refl
last_set-none f (x ∷ xs) none =
    ap (λ o. option_or o (f x)) (last_set-none f xs (each_rest f None x xs none)) ∙ each_first f None x xs none

pub last_set-there : {X Y : Type 0} (f : X → Option Y) (before after : List X) (x : X) (y : Y) → f x ≡ Some y
    → Each f None after → last_set (map f (before ++ x ∷ after)) ≡ Some y
last_set-there f before after x y here none =
    ap last_set (map-append f before (x ∷ after))
    ∙ last_set-append (map f before) (map f (x ∷ after))
    ∙ ap (λ o. option_or (option_or o (f x)) (last_set (map f before))) (last_set-none f after none)
    ∙ ap (λ o. option_or o (last_set (map f before))) here

-- the last value of lists that are joined: that of the last list that has one
pub last_set-flat : {X Y Z : Type 0} (f : Y → Option Z) (of : X → List Y) (xs : List X)
    → last_set (map f (flat_map of xs)) ≡ last_set (map (λ x. last_set (map f (of x))) xs)
last_set-flat f of [] = refl
last_set-flat f of (x ∷ xs) =
    ap last_set (map-append f (of x) (flat_map of xs))
    ∙ last_set-append (map f (of x)) (map f (flat_map of xs))
    ∙ ap (λ o. option_or o (last_set (map f (of x)))) (last_set-flat f of xs)

-- ---- By index

-- none of the first n items has a value
pub first-none : {X Y : Type 0} (f : X → Option Y) (xs : List X) (n : ℕ)
    → ((k : ℕ) (x : X) → k < n → slice_get xs k ≡ Some x → f x ≡ None) → last_set (map f (take n xs)) ≡ None
first-none f [] zero none = refl
first-none f [] (suc n) none = refl
first-none f (x ∷ xs) zero none = refl
first-none f (x ∷ xs) (suc n) none =
    ap (λ o. option_or o (f x)) (first-none f xs n (λ k y less is. none (suc k) y (omega (arith, less)) is))
    ∙ none zero x (omega arith) refl

-- an item has a value, and none of those after it up to i
pub first-there : {X Y : Type 0} (f : X → Option Y) (xs : List X) (i at : ℕ) (x : X) (y : Y) → slice_get xs at ≡ Some x
    → at ≤ i → f x ≡ Some y → ((k : ℕ) (z : X) → at < k → k ≤ i → slice_get xs k ≡ Some z → f z ≡ None)
    → last_set (map f (take (suc i) xs)) ≡ Some y
first-there f [] i at x y there le value none = cc
first-there f (z ∷ xs) i zero x y there le value none =
    let same : z ≡ x = cc in
    ap (λ o. option_or o (f z)) (first-none f xs i (λ k w less is. none (suc k) w (omega arith) (omega (arith, less)) is))
    ∙ ap f same ∙ value
first-there f (z ∷ xs) zero (suc at) x y there le value none = absurd (omega (arith, le))
first-there f (z ∷ xs) (suc i) (suc at) x y there le value none =
    ap (λ o. option_or o (f z))
    (first-there f xs i at x y there (omega (arith, le)) value
    (λ k w after upto is. none (suc k) w (omega (arith, after)) (omega (arith, upto)) is))
