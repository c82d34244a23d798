-- Decimal numbers, digit by digit.
use Rattle.std.proofs.lemmas.List.{drop_all}
use Rattle.std.proofs.Common.{get_or, drop-cons, add-one, le-ltb, lt-ltb, cond, ◌≡◌, ℕ, ◌+◌, ◌-◌, ◌*◌, ◌≤◌, ◌<◌, List}
use Rattle.std.proofs.Common.{[], ◌∷◌, length, drop, refl, ap, ◌∙◌, arith, None, Some, true, false, Bool}
use Rattle.std.specs.List.{list_all}
use Rattle.sudo_text.specs.Bytes.{is_digit}
use Rattle.sudo_grammar.specs.Members.{decimal_after, number_of, in_range}

-- the value of the bytes is that of those after the first i, on top of a value; and so is whether all are digits
pub record IsReadUpTo (bytes : List ℕ) (value i : ℕ) : Type 0 where
  pub value_is : decimal_after 0 bytes ≡ decimal_after value (drop i bytes)
  pub fits : value < 4294967296
  pub digits : list_all is_digit bytes ≡ list_all is_digit (drop i bytes)

-- further digits never make it less
pub decimal_after-grows : (value : ℕ) (bytes : List ℕ) → value ≤ decimal_after value bytes
decimal_after-grows value [] = omega arith
decimal_after-grows value (b ∷ bs) = omega (arith, decimal_after-grows (10 * value + (b - 48)) bs)

-- the bytes from an index on begin with the one there
from_place : (bytes : List ℕ) (i : ℕ) → i < length bytes → drop i bytes ≡ get_or bytes i 0 ∷ drop (i + 1) bytes
from_place bytes i h = rw (add-one, drop-cons bytes i 0)

pub too_large : (bytes : List ℕ) (value i : ℕ) → i < length bytes
    → 4294967296 ≤ 10 * value + (get_or bytes i 0 - 48) → IsReadUpTo bytes value i → number_of bytes ≡ None
too_large [] value i inside large r = absurd (omega arith)
too_large (b ∷ bs) value i inside large r = go (list_all is_digit (b ∷ bs))
  where
    more : 4294967296 ≤ decimal_after 0 (b ∷ bs)
    more = rw (r.value_is ∙ ap (decimal_after value) (from_place (b ∷ bs) i inside))
        (omega (arith, decimal_after-grows (10 * value + (get_or (b ∷ bs) i 0 - 48)) (drop (i + 1) (b ∷ bs))))

    go : (t : Bool) → in_range (cond t (Some (decimal_after 0 (b ∷ bs))) None) ≡ None
    go true = rw (le-ltb (decimal_after 0 (b ∷ bs)) 4294967296 more) refl
    go false = refl

pub no_digit : (bytes : List ℕ) (value i : ℕ) → i < length bytes → is_digit (get_or bytes i 0) ≡ false
    → IsReadUpTo bytes value i → number_of bytes ≡ None
no_digit [] value i inside other r = absurd (omega arith)
no_digit (b ∷ bs) value i inside other r =
    let none : list_all is_digit (b ∷ bs) ≡ false =
    r.digits ∙ ap (list_all is_digit) (from_place (b ∷ bs) i inside) ∙ rw other refl in
    ap (λ t. in_range (cond t (Some (decimal_after 0 (b ∷ bs))) None)) none

pub read_all : (bytes : List ℕ) (value i : ℕ) → 0 < length bytes → length bytes ≤ i → IsReadUpTo bytes value i
    → number_of bytes ≡ Some value
read_all [] value i some past r = absurd (omega arith)
read_all (b ∷ bs) value i some past r =
    let end : drop i (b ∷ bs) ≡ [] = drop_all i (b ∷ bs) past in
    let all : list_all is_digit (b ∷ bs) ≡ true = r.digits ∙ ap (list_all is_digit) end in
    let is : decimal_after 0 (b ∷ bs) ≡ value = r.value_is ∙ ap (decimal_after value) end in
    ap (λ t. in_range (cond t (Some (decimal_after 0 (b ∷ bs))) None)) all
    ∙ ap (λ v. in_range (Some v)) is ∙ rw (lt-ltb value 4294967296 r.fits) refl
