-- Elements of lists: where they are, and which a search finds.
use Rattle.std.proofs.Common.{◌≡◌, ℕ, zero, suc, ◌<◌, Bool, true, false, List, [], ◌∷◌, ◌++◌, length, Some, refl, cond, arith}
use Rattle.std.specs.Prelude.{find, slice_get}

pub slice_get-append-left : {A : Type 0} (xs ys : List A) (n : ℕ) → n < length xs → slice_get (xs ++ ys) n ≡ slice_get xs n
slice_get-append-left [] ys n h = absurd (omega arith)
slice_get-append-left (x ∷ xs) ys zero h = refl
slice_get-append-left (x ∷ xs) ys (suc n) h = slice_get-append-left xs ys n (omega arith)

-- what a search finds passes its test
pub find-holds : {A : Type 0} (p : A → Bool) (xs : List A) (x : A) → find p xs ≡ Some x → p x ≡ true
find-holds p [] x e = cc
find-holds p (y ∷ xs) x e = go (p y) refl e (λ f. find-holds p xs x f)
  where
    go : (b : Bool) → p y ≡ b → cond b (Some y) (find p xs) ≡ Some x → (find p xs ≡ Some x → p x ≡ true) → p x ≡ true
    go true f g more = let same : y ≡ x = cc in cc
    go false f g more = more g
