-- The front of a list that passes a test.
use Rattle.std.proofs.Common.{◌≡◌, ◌≤◌, ℕ, zero, suc, Bool, List, [], ◌∷◌, length, take, refl, ap, arith}
use Rattle.std.specs.List.{take_while, prefix_len}

take_again : (n : ℕ) (xs : List ℕ) → take (length (take n xs)) xs ≡ take n xs
take_again zero xs = refl
take_again (suc n) [] = refl
take_again (suc n) (x ∷ xs) = ap (λ (ys : List ℕ). x ∷ ys) (take_again n xs)

-- a list of no more elements is its own front
pub take_shorter : {A : Type 0} (n : ℕ) (xs : List A) → length xs ≤ n → take n xs ≡ xs
take_shorter zero [] few = refl
take_shorter zero (x ∷ xs) few = absurd (omega (arith, few))
take_shorter (suc n) [] few = refl
take_shorter (suc n) (x ∷ xs) few = ap (λ ys. x ∷ ys) (take_shorter n xs (omega (arith, few)))

pub take_front : (p : ℕ → Bool) (xs : List ℕ) → take (length (take_while p xs)) xs ≡ take_while p xs
take_front p xs = take_again (prefix_len p xs) xs
