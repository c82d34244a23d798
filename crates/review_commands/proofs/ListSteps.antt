-- Lists that a loop goes over, one item further.
use Rattle.std.proofs.Common.{◌≡◌, ◌<◌, ◌+◌, ◌∙◌, ℕ, List, [], ◌∷◌, ◌++◌, ap, append-nil, arith, drop, flat_map, fold}
use Rattle.std.proofs.Common.{get_or, length, map, suc, sym, take}
use Rattle.std.proofs.lemmas.Grind.{flat_map-append}
use Rattle.std.proofs.lemmas.List.{drop_more, map-append}
use lib.Seq.{take-suc}

pub take-more : {X : Type 0} (xs : List X) (at : ℕ) (x : X) → at < length xs → x ≡ get_or xs at x
    → take (at + 1) xs ≡ take at xs ++ x ∷ []
take-more xs at x within is =
    let on : at + 1 ≡ suc at = omega arith in
    ap (λ n. take n xs) on ∙ take-suc xs at x within ∙ ap (λ y. take at xs ++ y ∷ []) (sym is)

-- one more item's text
pub flat_map-more : {X : Type 0} (f : X → List ℕ) (xs : List X) (at : ℕ) (x : X) (text new : List ℕ) → at < length xs
    → x ≡ get_or xs at x → text ≡ flat_map f (take at xs) → new ≡ text ++ f x → new ≡ flat_map f (take (at + 1) xs)
flat_map-more f xs at x text new within is so_far more =
    more ∙ ap (λ (t : List ℕ). t ++ f x) so_far
    ∙ sym (ap (flat_map f) (take-more xs at x within is) ∙ flat_map-append f (take at xs) (x ∷ [])
    ∙ ap (λ (t : List ℕ). flat_map f (take at xs) ++ t) (append-nil (f x)))

-- one more item's image, behind a first one
pub map-more : {X Y : Type 0} (g : X → Y) (xs : List X) (at : ℕ) (x : X) (first : Y) (images new : List Y) → at < length xs
    → x ≡ get_or xs at x → images ≡ first ∷ map g (take at xs) → new ≡ images ++ g x ∷ []
    → new ≡ first ∷ map g (take (at + 1) xs)
map-more g xs at x first images new within is so_far more =
    more ∙ ap (λ (ys : List _). ys ++ g x ∷ []) so_far
    ∙ ap (λ (ys : List _). first ∷ ys) (sym (ap (map g) (take-more xs at x within is) ∙ map-append g (take at xs) (x ∷ [])))

-- one more item of a fold
pub fold-more : {X A : Type 0} (f : A → X → A) (xs : List X) (at : ℕ) (other : X) (before new whole : A) → at < length xs
    → whole ≡ fold f before (drop at xs) → new ≡ f before (get_or xs at other) → whole ≡ fold f new (drop (at + 1) xs)
fold-more f xs at other before new whole within so_far more =
    so_far ∙ ap (fold f before) (drop_more xs at other within) ∙ ap (λ a. fold f a (drop (at + 1) xs)) (sym more)
