-- Bits of words: of a row that grows, of a row with one more bit, of a block with the bits of other words, and the last
-- bit before a position.
use Rattle.std.proofs.Common.{◌≡◌, ℕ, zero, suc, ◌+◌, ◌-◌, ◌*◌, ◌/◌, ◌%◌, ◌^◌, ◌<◌, ◌≤◌, ◌⊎◌, inl, inr, List, [], ◌∷◌}
use Rattle.std.proofs.Common.{◌++◌, length, get_or, set, refl, sym, ap, subst, ◌∙◌, arith, w64, bit_or, bit_and, min}
use Rattle.std.proofs.Common.{max, ⊎_elim, get_or-set_same, get_or-set_other}
use Rattle.std.specs.Int.{bit_at}
use Rattle.std.specs.Int.Count.{count_leading_zeros, leading_of_zero}
use Rattle.std.proofs.lemmas.Nat.{pow_below, pow_pos, one_shl, leading_top, div-add-mod'}
use Rattle.std.proofs.Math.Nat.{mod-lt}
use Rattle.std.proofs.lemmas.Nat.Bits.{bit_at_set_same, bit_at_or, bit_at_and, bit_at-zero, bit_at-lt, bit_at_above, bit_at_cat_low}
use Rattle.std.proofs.lemmas.Bool.{cases_eq, cases_lt}
use Rattle.sudo_verdict.specs.Postings.{bit}
use Rattle.std.proofs.Common.{Bool, true, false, ◌&&◌}
use Rattle.std.specs.Prelude.{◌==◌}
use Rattle.sudo_verdict.specs.Body.Blocks.{AddsWords, both_have}

-- ---- One more bit

pub bit-set_same : (words : List ℕ) (i : ℕ) → i < 64 * length words →
    bit (set words (i / 64) (bit_or (get_or words (i / 64) 0) (1 * 2 ^ (i % 64) % 2 ^ 64))) i ≡ 1
bit-set_same words i room =
    ap (λ w. bit_at w (i % 64)) (get_or-set_same words (i / 64) _ 0 (omega (arith, room))) ∙ bit_at_set_same w64 _ (i % 64) (omega arith)

pub bit-set_other : (words : List ℕ) (i other : ℕ) → i < 64 * length words → bit words other ≡ 1 →
    bit (set words (i / 64) (bit_or (get_or words (i / 64) 0) (1 * 2 ^ (i % 64) % 2 ^ 64))) other ≡ 1
bit-set_other words i other room had =
    let at = i / 64 in
    let one = 1 * 2 ^ (i % 64) % 2 ^ 64 in
    let new = bit_or (get_or words at 0) one in
    ⊎_elim
    (λ e.
    let old : bit_at (get_or words at 0) (other % 64) ≡ 1 = subst (λ k. bit_at (get_or words k 0) (other % 64) ≡ 1) e had in
    ap (λ w. bit_at w (other % 64)) (ap (λ k. get_or (set words at new) k 0) e ∙ get_or-set_same words at new 0 (omega (arith, room)))
    ∙ omega (arith, bit_at_or (get_or words at 0) one (other % 64), bit_at-lt one (other % 64), old))
    (λ ne. ap (λ w. bit_at w (other % 64)) (get_or-set_other words at (other / 64) new 0 ne) ∙ had)
    (cases_eq (other / 64) at)

get-zero : (ws : List ℕ) (k : ℕ) → get_or (ws ++ 0 ∷ []) k 0 ≡ get_or ws k 0
get-zero [] zero = refl
get-zero [] (suc k) = refl
get-zero (w ∷ ws) zero = refl
get-zero (w ∷ ws) (suc k) = get-zero ws k

pub bit-push_zero : (ws : List ℕ) (i : ℕ) → bit (ws ++ 0 ∷ []) i ≡ bit ws i
bit-push_zero ws i = ap (λ w. bit_at w (i % 64)) (get-zero ws (i / 64))

-- ---- The bits of other words

pub past-zero : (ws : List ℕ) (k : ℕ) → length ws ≤ k → get_or ws k 0 ≡ 0
past-zero [] k h = refl
past-zero (w ∷ ws) zero h = absurd (omega (arith, h))
past-zero (w ∷ ws) (suc k) h = past-zero ws k (omega (arith, h))

pub adds-words :
    (words old new : List ℕ) (n : ℕ) → n ≤ length old → (length old ≤ n) ⊎ (length words ≤ n) →
    ((k : ℕ) → k < n → get_or new k 0 ≡ bit_or (get_or old k 0) (get_or words k 0)) →
    ((k : ℕ) → n ≤ k → get_or new k 0 ≡ get_or old k 0) → AddsWords words old new
adds-words words old new n within end before after i none = go (cases_lt (i / 64) n)
  where
    go : (i / 64 < n) ⊎ (n ≤ i / 64) → (bit old i ≡ 0) × (i < 64 * length old → bit words i ≡ 0)
    go (inl b) =
        let both : max (bit_at (get_or old (i / 64) 0) (i % 64)) (bit_at (get_or words (i / 64) 0) (i % 64)) ≡ 0 =
        sym (bit_at_or (get_or old (i / 64) 0) (get_or words (i / 64) 0) (i % 64))
        ∙ ap (λ w. bit_at w (i % 64)) (sym (before (i / 64) b)) ∙ none in
        (omega (arith, both), λ h. omega (arith, both))
    go (inr a) = (
      ap (λ w. bit_at w (i % 64)) (sym (after (i / 64) a)) ∙ none,
      λ h. ap (λ w. bit_at w (i % 64)) (past-zero words (i / 64) (past end h)) ∙ bit_at-zero (i % 64),
    )
      where
        past : (length old ≤ n) ⊎ (length words ≤ n) → i < 64 * length old → length words ≤ i / 64
        past (inl o) h = absurd (omega (arith, o, h, a))
        past (inr w) h = omega (arith, w, a)

-- ---- The last bit before a position

pub low-bit : (word k i : ℕ) → i < k → bit_at word i ≡ bit_at (word % 2 ^ k) i
low-bit word k i h = ap (λ w. bit_at w i) (sym (div-add-mod' word (2 ^ k))) ∙ bit_at_cat_low (word / 2 ^ k) k (word % 2 ^ k) i h

-- a number below 2 ^ end has its last bit before end
pub last-within : (low end : ℕ) → low < 2 ^ end → end ≤ 64 → 64 - count_leading_zeros 64 low ≤ end
last-within zero end h e = omega (arith, leading_of_zero 64)
last-within (suc n) end h e =
    let top = leading_top 64 (suc n) (omega arith) (below end h e) in
    go top.0 top.1 top.2 (cases_lt top.0 end)
  where
    below : (end : ℕ) → suc n < 2 ^ end → end ≤ 64 → suc n < 2 ^ 64
    below end h e = ⊎_elim (λ l. let p = pow_below end 64 l in
        omega (arith, p, h)) (λ g. let same : end ≡ 64 = omega (arith, g, e) in subst (λ k. suc n < 2 ^ k) same h) (cases_lt end 64)

    go : (j : ℕ) → count_leading_zeros 64 (suc n) + suc j ≡ 64 → 2 ^ j ≤ suc n → (j < end) ⊎ (end ≤ j)
        → 64 - count_leading_zeros 64 (suc n) ≤ end
    go j is least (inl l) = omega (arith, is, l)
    go j is least (inr g) = absurd (⊎_elim (λ l. let p = pow_below end j l in omega (arith, p, least, h))
        (λ k. let same : end ≡ j = omega (arith, g, k) in let p : 2 ^ end ≡ 2 ^ j = ap (λ x. 2 ^ x) same in
        omega (arith, p, least, h)) (cases_lt end j))

-- and no bit from there on
pub last-none : (low i : ℕ) → low < 2 ^ 64 → 64 - count_leading_zeros 64 low ≤ i → bit_at low i ≡ 0
last-none zero i h from = bit_at-zero i
last-none (suc n) i h from =
    let top = leading_top 64 (suc n) (omega arith) h in
    bit_at_above (suc n) (suc top.0) i top.3 (let is = top.1 in omega (arith, is, from))

-- ---- Bits of both blocks

pub both-none : (users commands : List ℕ) (index i : ℕ) → (64 * index ≤ i) × (i < 64 * index + 64) →
    bit_at (bit_and (get_or users index 0) (get_or commands index 0)) (i - 64 * index) ≡ 0 → both_have users commands i ≡ false
both-none users commands index i within none =
    let low = within.0 in
    let high = within.1 in
    let quotient : i / 64 ≡ index = omega (arith, low, high) in
    let remainder : i % 64 ≡ i - 64 * index = omega (arith, low, high) in
    both (bit users i) (bit commands i)
    (ap (λ k. min (bit_at (get_or users k 0) (i % 64)) (bit_at (get_or commands k 0) (i % 64))) quotient
    ∙ ap (λ j. min (bit_at (get_or users index 0) j) (bit_at (get_or commands index 0) j)) remainder
    ∙ sym (bit_at_and (get_or users index 0) (get_or commands index 0) (i - 64 * index)) ∙ none)
  where
    both : (a b : ℕ) → min a b ≡ 0 → ((a == 1) && (b == 1)) ≡ false
    both zero b e = refl
    both (suc a) zero e = no (suc a == 1)
      where
        no : (x : Bool) → (x && false) ≡ false
        no true = refl
        no false = refl
    both (suc a) (suc b) e = absurd (omega (arith, e))

-- the bits of a word below a position, if the word is cut there
module _ (word end low : ℕ) (fits : word < 2 ^ 64) where
  pub cut-within : end < 64 → low ≡ word % (1 * 2 ^ end % 2 ^ 64) → 64 - count_leading_zeros 64 low ≤ end
  cut-within less is =
      last-within low end (subst (λ x. x < 2 ^ end) (sym (is ∙ ap (λ p. word % p) (one_shl end 64 less)))
      (mod-lt word (pow_pos end))) (omega (arith, less))

  pub cut-none : end < 64 → low ≡ word % (1 * 2 ^ end % 2 ^ 64) → (i : ℕ) → 64 - count_leading_zeros 64 low ≤ i
      → i < end → bit_at word i ≡ 0
  cut-none less is i from before =
      let same : low ≡ word % 2 ^ end = is ∙ ap (λ p. word % p) (one_shl end 64 less) in
      let small : low < 2 ^ end = subst (λ x. x < 2 ^ end) (sym same) (mod-lt word (pow_pos end)) in
      let power = pow_below end 64 less in
      low-bit word end i before ∙ ap (λ x. bit_at x i) (sym same) ∙ last-none low i (omega (arith, small, power)) from

  pub whole-within : 64 ≤ end → low ≡ word → 64 - count_leading_zeros 64 low ≤ end
  whole-within more is = omega (arith, more)

  pub whole-bits : low ≡ word → (i : ℕ) → 64 - count_leading_zeros 64 low ≤ i → bit_at word i ≡ 0
  whole-bits is i from = ap (λ x. bit_at x i) (sym is) ∙ last-none low i (subst (λ x. x < 2 ^ 64) (sym is) fits) from
