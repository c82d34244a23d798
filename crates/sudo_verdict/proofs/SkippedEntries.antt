-- The entries that a search passes over: items without a value leave the last value of a list as it is.
use Rattle.std.proofs.Common.{◌≡◌, ℕ, zero, suc, ◌+◌, ◌-◌, ◌<◌, ◌≤◌, Bool, true, false, List, [], ◌∷◌, ◌++◌, map}
use Rattle.std.proofs.Common.{take, Option, Some, None, refl, sym, ◌∙◌, ap, arith, option_to_list, add-zero, add-one}
use Rattle.std.specs.Prelude.{is_some, slice_get}
use Rattle.std.specs.Option.{option_or}
use Rattle.std.specs.List.{list_all}
use Rattle.std.proofs.lemmas.Bool.{and_parts}
use Rattle.std.proofs.lemmas.List.{append-nil}
use Rattle.sudo_verdict.specs.Last.{last_set}
use Rattle.sudo_verdict.proofs.Lasts.{last_set-map-push, take-more}

-- ---- The entries that a search passes over

one-silent : {X Y : Type 0} (f : X → Option Y) (xs : List X) (n : ℕ) → ((x : X) → slice_get xs n ≡ Some x → f x ≡ None)
    → last_set (map f (take (suc n) xs)) ≡ last_set (map f (take n xs))
one-silent f xs n silent = ap (λ l. last_set (map f l)) (take-more n xs) ∙ go (slice_get xs n) refl
  where
    go : (o : Option _) → slice_get xs n ≡ o → last_set (map f (take n xs ++ option_to_list o)) ≡ last_set (map f (take n xs))
    go None e = ap (λ l. last_set (map f l)) (append-nil (take n xs))
    go (Some x) e = last_set-map-push f (take n xs) x ∙ ap (λ o. option_or o (last_set (map f (take n xs)))) (silent x e)

pub passed-over : {X Y : Type 0} (f : X → Option Y) (xs : List X) (from more : ℕ)
    → ((k : ℕ) (x : X) → from ≤ k → k < from + more → slice_get xs k ≡ Some x → f x ≡ None)
    → last_set (map f (take (from + more) xs)) ≡ last_set (map f (take from xs))
passed-over f xs from zero silent = ap (λ n. last_set (map f (take n xs))) (add-zero from)
passed-over f xs from (suc more) silent =
    ap (λ n. last_set (map f (take n xs))) (let e : from + suc more ≡ suc (from + more) = omega arith in e)
    ∙ one-silent f xs (from + more) (λ x e. silent (from + more) x (omega arith) (omega arith) e)
    ∙ passed-over f xs from more (λ k x l h e. silent k x l (omega (arith, h)) e)

pub last-there : {X Y : Type 0} (f : X → Option Y) (xs : List X) (n : ℕ) (x : X) → slice_get xs n ≡ Some x
    → last_set (map f (take (n + 1) xs)) ≡ option_or (f x) (last_set (map f (take n xs)))
last-there f xs n x e =
    ap (λ l. last_set (map f l)) (ap (λ k. take k xs) (add-one n) ∙ take-more n xs ∙ ap (λ o. take n xs ++ option_to_list o) e)
    ∙ last_set-map-push f (take n xs) x

pub all-at : {X : Type 0} (p : X → Bool) (xs : List X) (k : ℕ) (x : X) → list_all p xs ≡ true → slice_get xs k ≡ Some x → p x ≡ true
all-at p [] k x e f = cc
all-at p (y ∷ ys) zero x e f = let same : y ≡ x = cc in ap p (sym same) ∙ (and_parts (p y) (list_all p ys) e).0
all-at p (y ∷ ys) (suc k) x e f = all-at p ys k x (and_parts (p y) (list_all p ys) e).1 f

pub or-none : {X : Type 0} (o x : Option X) → is_some o ≡ false → option_or o x ≡ x
or-none (Some y) x e = cc
or-none None x e = refl

-- items without a value, from one index up to another
pub skipped :
    {X Y : Type 0} (f : X → Option Y) (xs : List X) (from to : ℕ) → from ≤ to
    → ((k : ℕ) (x : X) → from ≤ k → k < to → slice_get xs k ≡ Some x → f x ≡ None) →
    last_set (map f (take to xs)) ≡ last_set (map f (take from xs))
skipped f xs from to up silent =
    let whole : from + (to - from) ≡ to = omega (arith, up) in
    ap (λ n. last_set (map f (take n xs))) (sym whole)
    ∙ passed-over f xs from (to - from) (λ k x l h there. silent k x l (omega (arith, h, up)) there)
