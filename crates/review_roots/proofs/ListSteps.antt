-- Lists that a loop goes over, one item further; and one filter behind another.
use Rattle.std.proofs.Common.{◌≡◌, ◌<◌, ◌+◌, ◌∙◌, ℕ, zero, suc, Bool, true, false, cond, ◌&&◌, List, [], ◌∷◌, ◌++◌, ap, arith, refl}
use Rattle.std.proofs.Common.{drop, flat_map, get_or, length, sym, take}
use Rattle.std.specs.Prelude.{filter}
use Rattle.review_grants.proofs.ListSteps.{flat-one, take-more}

-- the item at an index, and those behind it
pub drop-next : {X : Type 0} (xs : List X) (at : ℕ) (d : X) → at < length xs → drop at xs ≡ get_or xs at d ∷ drop (at + 1) xs
drop-next [] at d within = absurd (omega (arith, within))
drop-next (x ∷ xs) zero d within = refl
drop-next (x ∷ xs) (suc at) d within =
    drop-next xs at d (omega (arith, within))
    ∙ ap (λ k. get_or xs at d ∷ drop k (x ∷ xs)) (let e : suc (at + 1) ≡ suc at + 1 = omega arith in e)

-- one filter behind another
pub filter-twice : {X : Type 0} (s t both : X → Bool) → ((x : X) → both x ≡ (t x && s x)) → (xs : List X) → filter s (filter t xs)
    ≡ filter both xs
filter-twice s t both same [] = refl
filter-twice {X} s t both same (x ∷ xs) = go (t x) refl (s x) refl (filter-twice s t both same xs)
  where
    go : (b : Bool) → t x ≡ b → (c : Bool) → s x ≡ c → filter s (filter t xs) ≡ filter both xs
        → filter s (cond b (x ∷ filter t xs) (filter t xs)) ≡ cond (both x) (x ∷ filter both xs) (filter both xs)
    go true is c also rest =
        ap (λ v. cond v (x ∷ filter s (filter t xs)) (filter s (filter t xs))) also
        ∙ ap (λ (ys : List X). cond c (x ∷ ys) ys) rest
        ∙ ap (λ v. cond v (x ∷ filter both xs) (filter both xs)) (sym (same x ∙ ap (λ v. v && s x) is ∙ also))
    go false is c also rest =
        rest ∙ ap (λ v. cond v (x ∷ filter both xs) (filter both xs)) (sym (same x ∙ ap (λ v. v && s x) is))

-- one item's list more
pub flat-next :
    {X Y : Type 0} (f : X → List Y) (xs : List X) (at : ℕ) (x : X) (old new : List Y) → at < length xs → x ≡ get_or xs at x →
    old ≡ flat_map f (take at xs) → new ≡ old ++ f x → new ≡ flat_map f (take (at + 1) xs)
flat-next f xs at x old new within is so_far more =
    more ∙ ap (λ (ys : List _). ys ++ f x) so_far ∙ sym (flat-one f (take at xs) x) ∙ ap (flat_map f) (sym (take-more xs at x within is))
