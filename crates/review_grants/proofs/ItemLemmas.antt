-- Two tests, the items that a filter leaves, and options that are copied.
use Rattle.std.proofs.Common.{◌≡◌, ◌<◌, ◌∙◌, ℕ, zero, suc, Bool, true, false, cond, ◌||◌, List, [], ◌∷◌, ap, arith, length, refl, sym}
use Rattle.std.proofs.Common.{Option, Some, None, Bor, option_copied}
use Rattle.std.specs.Prelude.{filter}
use Rattle.std.specs.List.{Contains, slice_index_or}
use Rattle.std.specs.Option.{option_or}
use Rattle.std.proofs.lemmas.List.Elements.{Contains-append_right}

-- neither of two tests passes
pub neither : (a b : Bool) → (a || b) ≡ false → (a ≡ false) × (b ≡ false)
neither true b e = cc
neither false b e = (refl, e)

pub or-false : (b : Bool) → (b || false) ≡ b
or-false true = refl
or-false false = refl

pub or-true : (b : Bool) → (b || true) ≡ true
or-true true = refl
or-true false = refl

-- an item of a filtered list is one of the list, and passes
pub from-filter : {X : Type 0} (t : X → Bool) (xs : List X) (x : X) → Contains (filter t xs) x → Contains xs x × (t x ≡ true)
from-filter {X} t xs x h = at xs h.0 h.1 h.2
  where
    at : (xs : List X) (k : ℕ) → k < length (filter t xs) → slice_index_or (filter t xs) k x ≡ x → Contains xs x × (t x ≡ true)
    at [] k less e = absurd (omega (arith, less))
    at (y ∷ ys) k less e = go (t y) refl k less e (at ys)
      where
        widen : Contains ys x × (t x ≡ true) → Contains (y ∷ ys) x × (t x ≡ true)
        widen there = (Contains-append_right (y ∷ []) ys x there.0, there.1)

        go : (b : Bool) → t y ≡ b → (k : ℕ) → k < length (cond b (y ∷ filter t ys) (filter t ys))
            → slice_index_or (cond b (y ∷ filter t ys) (filter t ys)) k x ≡ x
            → ((k : ℕ) → k < length (filter t ys) → slice_index_or (filter t ys) k x ≡ x → Contains ys x × (t x ≡ true))
            → Contains (y ∷ ys) x × (t x ≡ true)
        go true is zero less e rest = ((0, omega arith, e), ap t (sym e) ∙ is)
        go true is (suc k) less e rest = widen (rest k (omega (arith, less)) e)
        go false is k less e rest = widen (rest k less e)

pub copied-or : {X : Type 0} (a b : Option (Bor X)) → option_copied (option_or a b) ≡ option_or (option_copied a) (option_copied b)
copied-or None b = refl
copied-or (Some x) b = refl
