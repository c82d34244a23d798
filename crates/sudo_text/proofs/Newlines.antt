-- The bytes before the first newline, by a search for it.
use Rattle.std.proofs.Common.{◌≡◌, ℕ, zero, suc, ◌<◌, ◌≤◌, Bool, true, false, List, [], ◌∷◌, length, refl, sym, ◌∙◌, ap, arith}
use Rattle.std.specs.Prelude.{◌==◌, not, cond}
use Rattle.std.specs.List.{take_while}
use Rattle.std.proofs.lemmas.List.Sums.{take_while-cons}
use Rattle.memchr.specs.Find.{Nowhere, Passes, is_byte}

count-cons : (x : ℕ) (xs : List ℕ)
    → length (take_while (λ b. not (b == 10)) (x ∷ xs)) ≡ cond (not (x == 10)) (suc (length (take_while (λ b. not (b == 10)) xs))) 0
count-cons x xs = ap length (take_while-cons (λ b. not (b == 10)) x xs) ∙ go (not (x == 10))
  where
    go : (t : Bool) → length (cond t (x ∷ take_while (λ b. not (b == 10)) xs) [])
        ≡ cond t (suc (length (take_while (λ b. not (b == 10)) xs))) 0
    go true = refl
    go false = refl

other : (t : Bool) → (t ≡ true → ⊥) → not t ≡ true
other true h = absurd (h refl)
other false h = refl

-- No byte before `k` is a newline, and the byte there is one, or the text ends there.
pub newline_at : (xs : List ℕ) (k : ℕ) → k ≤ length xs → Nowhere (Passes (is_byte 10) xs) 0 k
    → (k < length xs → Passes (is_byte 10) xs k) → k ≡ length (take_while (λ b. not (b == 10)) xs)
newline_at [] k le none at = omega (arith, le)
newline_at (x ∷ xs) zero le none at =
    sym (count-cons x xs ∙ ap (λ t. cond (not t) (suc (length (take_while (λ b. not (b == 10)) xs))) 0) (at (omega arith)))
newline_at (x ∷ xs) (suc k) le none at =
    let more = newline_at xs k (omega (arith, le)) (λ j low high. none (suc j) (omega arith) (omega (arith, high)))
    (λ lt. at (omega (arith, lt))) in
    sym (count-cons x xs
    ∙ ap (λ t. cond t (suc (length (take_while (λ b. not (b == 10)) xs))) 0) (other (x == 10) (none 0 (omega arith) (omega arith)))
    ∙ ap suc (sym more))
