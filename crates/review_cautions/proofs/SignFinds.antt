-- A search for the signs finds one where a line has one.
use Rattle.std.proofs.Common.{◌≡◌, ◌∙◌, ◌<◌, ℕ, zero, suc, Bool, true, false, List, [], ◌∷◌, Option, None, Some, ap, arith, length}
use Rattle.std.proofs.Common.{refl, sym}
use Rattle.std.specs.Prelude.{◌||◌, is_some, slice_index}
use Rattle.std.specs.List.{list_any}
use Rattle.memchr.specs.Find.{IsFirstByte, Nowhere, Passes, is_byte3}
use Rattle.review_cautions.specs.Body.Signs.{is_sign}

none-there : (t : Bool) → (t ≡ true → ⊥) → t ≡ false
none-there true h = absurd (h refl)
none-there false h = refl

no-left : (a b : Bool) → a ≡ false → (a || b) ≡ b
no-left a b e = ap (λ v. v || b) e

-- a test that passes nowhere passes no byte
pub nowhere : (test : ℕ → Bool) (line : List ℕ) → Nowhere (Passes test line) 0 (length line) → list_any test line ≡ false
nowhere test [] none = refl
nowhere test (b ∷ bs) none =
    no-left (test b) (list_any test bs) (none-there (test b) (none 0 (omega arith) (omega arith)))
    ∙ nowhere test bs (λ k low high. none (suc k) (omega arith) (omega (arith, high)))

there : (test : ℕ → Bool) (line : List ℕ) (k : ℕ) → k < length line → test (slice_index line k) ≡ true → list_any test line ≡ true
there test [] k less is = absurd (omega (arith, less))
there test (b ∷ bs) zero less is = ap (λ v. v || list_any test bs) is
there test (b ∷ bs) (suc k) less is = by (test b) (there test bs k (omega (arith, less)) is)
  where
    by : (a : Bool) → list_any test bs ≡ true → (a || list_any test bs) ≡ true
    by true e = refl
    by false e = e

pub found_byte : (test : ℕ → Bool) (line : List ℕ) (r : Option ℕ) → IsFirstByte test line r → is_some r ≡ list_any test line
found_byte test line None none = sym (nowhere test line none)
found_byte test line (Some k) is = sym (there test line k is.0.high is.1)

pub found_sign : (line : List ℕ) (r : Option ℕ) → IsFirstByte (is_byte3 13 92 35) line r → is_some r ≡ list_any is_sign line
found_sign line r is = found_byte is_sign line r is
