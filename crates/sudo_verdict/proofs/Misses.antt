-- Rows of rules: rows with one more rule, blocks with the rules of a number, and rules in no row of a user or of a
-- command, whose atoms the user cannot match.
use Rattle.std.proofs.Common.{◌≡◌, ℕ, zero, suc, ◌+◌, ◌-◌, ◌*◌, ◌/◌, ◌%◌, ◌<◌, ◌≤◌, true, false, List, [], ◌∷◌}
use Rattle.std.proofs.Common.{length, get_or, drop, take, Option, Some, None, refl, sym, ◌∙◌, ap, subst, arith, ◌⊎◌}
use Rattle.std.proofs.Common.{inl, inr, Vec, Global}
use Rattle.std.specs.Prelude.{slice_get, ◌==◌}
use Rattle.std.specs.List.{list_all}
use Rattle.std.proofs.Math.ListN.{set}
use Rattle.std.proofs.Math.Nat.{mod-lt}
use Rattle.std.proofs.lemmas.Bool.{cases_eq, eqb-true, eq-eqb, ne_eqb}
use Rattle.std.proofs.lemmas.List.{length-set}
use Rattle.std.specs.Int.{bit_at}
use Rattle.std.proofs.lemmas.Nat.Bits.{bit_at-zero}
use Rattle.sudo_verdict.proofs.Bits.{past-zero}
use Rattle.sudo_policy.proofs.StateLemmas.{get_set_same, get_set_other}
use Rattle.sudo_match.specs.declared.people.Person.{Person}
use Rattle.sudo_match.specs.declared.people.Group.{Group}
use Rattle.sudo_verdict.specs.Body.Blocks.{StartsAt}
use Rattle.sudo_verdict.proofs.UserNumbers.{lacks-group, lacks-user}
use Rattle.sudo_verdict.specs.Postings.{bit, row_words, Rows, is_in_row, misses_user}
use Rattle.sudo_verdict.specs.Body.Postings.{Grows}
use Rattle.sudo_verdict.specs.Numbers.{user_number, group_number, uid_number, gid_number, lacks_group}

-- ---- The row of a number

pub row-within : (rows : Rows) (number at : ℕ) → at ≡ number % length rows → 0 < length rows → at < length rows
row-within rows number at is some = subst (λ k. k < length rows) (sym is) (mod-lt number some)

pub row-there : (rows : Rows) (number at : ℕ) (row : Vec ℕ Global) → at ≡ number % length rows → slice_get rows at ≡ Some row →
    slice_get rows (number % length rows) ≡ Some row
row-there rows number at row is e = ap (slice_get rows) (sym is) ∙ e

-- ---- One more rule

posted_is : (rows : Rows) (number rule at : ℕ) → number % length rows ≡ at
    → is_in_row rows number rule ≡ (bit (row_words (slice_get rows at)) rule == 1)
unfolding is_in_row
posted_is rows number rule at e = ap (λ k. bit (row_words (slice_get rows k)) rule == 1) e

posted_in_set :
    (rows : Rows) (index : ℕ) (row : Vec ℕ Global) (number rule at : ℕ) → number % length rows ≡ at →
    is_in_row (set rows index row) number rule ≡ (bit (row_words (slice_get (set rows index row) at)) rule == 1)
posted_in_set rows index row number rule at e =
    posted_is (set rows index row) number rule at (ap (λ n. number % n) (length-set rows index row) ∙ e)

pub posted_set :
    (rows : Rows) (index : ℕ) (row : Vec ℕ Global) (number rule : ℕ) → index < length rows → number % length rows ≡ index →
    bit row.items rule ≡ 1 → is_in_row (set rows index row) number rule ≡ true
posted_set rows index row number rule h e there =
    posted_in_set rows index row number rule index e
    ∙ ap (λ o. bit (row_words o) rule == 1) (get_set_same rows index row h)
    ∙ eq-eqb (bit row.items rule) 1 there

pub grows-set :
    (rows : Rows) (index : ℕ) (old new : Vec ℕ Global) → index < length rows → slice_get rows index ≡ Some old →
    ((rule : ℕ) → bit old.items rule ≡ 1 → bit new.items rule ≡ 1) → Grows rows (set rows index new)
grows-set rows index old new h e keeps number rule there = go (cases_eq (number % length rows) index)
  where
    go : (number % length rows ≡ index) ⊎ (number % length rows ≡ index → ⊥) → is_in_row (set rows index new) number rule ≡ true
    go (inl same) =
        posted_set rows index new number rule h same
        (keeps rule (eqb-true (bit old.items rule) 1 (sym (posted_is rows number rule index same
        ∙ ap (λ o. bit (row_words o) rule == 1) e) ∙ there)))
    go (inr other) =
        posted_in_set rows index new number rule (number % length rows) refl
        ∙ ap (λ o. bit (row_words o) rule == 1) (get_set_other rows index (number % length rows) new other)
        ∙ sym (posted_is rows number rule (number % length rows) refl)
        ∙ there

-- ---- A block with the rules of a number

get-drop : (ws : List ℕ) (first k : ℕ) → get_or (drop first ws) k 0 ≡ get_or ws (first + k) 0
get-drop ws zero k = ap (λ n. get_or ws n 0) (let e : k ≡ zero + k = omega arith in e)
get-drop [] (suc n) k = sym (nothing (suc n + k))
  where
    nothing : (m : ℕ) → ◌≡◌ {A = ℕ} (get_or [] m 0) 0
    nothing zero = refl
    nothing (suc m) = refl
get-drop (w ∷ ws) (suc n) k = get-drop ws n k ∙ (let e : suc (n + k) ≡ suc n + k = omega arith in ap (λ m. get_or (w ∷ ws) m 0) e)

take-all : (k : ℕ) (ws : List ℕ) → length ws ≤ k → take k ws ≡ ws
take-all zero [] h = refl
take-all zero (w ∷ ws) h = absurd (omega (arith, h))
take-all (suc k) [] h = refl
take-all (suc k) (w ∷ ws) h = ap (λ l. w ∷ l) (take-all k ws (omega (arith, h)))

length-drop : (n : ℕ) (ws : List ℕ) → length (drop n ws) ≤ length ws - n
length-drop zero ws = omega arith
length-drop (suc n) [] = omega arith
length-drop (suc n) (w ∷ ws) = let h = length-drop n ws in omega (arith, h)

bit-rest : (ws : List ℕ) (first i : ℕ) → bit (drop first ws) i ≡ bit ws (64 * first + i)
bit-rest ws first i =
    let quotient : (64 * first + i) / 64 ≡ first + i / 64 = omega arith in
    let remainder : (64 * first + i) % 64 ≡ i % 64 = omega arith in
    ap (λ w. bit_at w (i % 64)) (get-drop ws first (i / 64) ∙ ap (λ k. get_or ws k 0) (sym quotient))
    ∙ ap (λ j. bit_at (get_or ws ((64 * first + i) / 64) 0) j) (sym remainder)

-- the words of a row from one on have the row's later bits
pub bit-drop : (ws : List ℕ) (first i : ℕ) → bit (take (length ws - first) (drop first ws)) i ≡ bit ws (64 * first + i)
bit-drop ws first i =
    ap (λ l. bit l i) (take-all (length ws - first) (drop first ws) (length-drop first ws)) ∙ bit-rest ws first i

pub bit-past : (ws : List ℕ) (first i : ℕ) → length ws ≤ first → bit ws (64 * first + i) ≡ 0
bit-past ws first i h =
    ap (λ w. bit_at w ((64 * first + i) % 64)) (past-zero ws ((64 * first + i) / 64) (omega (arith, h)))
    ∙ bit_at-zero ((64 * first + i) % 64)

pub posted_none :
    (rows : Rows) (number rule : ℕ) (row : Vec ℕ Global) → slice_get rows (number % length rows) ≡ Some row → bit row.items rule ≡ 0 →
    is_in_row rows number rule ≡ false
posted_none rows number rule row e none =
    posted_is rows number rule (number % length rows) refl
    ∙ ap (λ o. bit (row_words o) rule == 1) e
    ∙ ne_eqb (bit row.items rule) 1 (λ h. let no : ◌≡◌ {A = ℕ} 0 1 = sym none ∙ h in omega (arith, no))

-- ---- Rows that grow

pub grows-on : (a b c : Rows) → Grows a b → Grows b c → Grows a c
grows-on a b c f g number rule e = g number rule (f number rule e)

-- ---- Rules before the first in a row

-- a bit past the words is not set
pub bit-outside : (ws : List ℕ) (i : ℕ) → length ws ≤ i / 64 → bit ws i ≡ 0
bit-outside ws i h = ap (λ w. bit_at w (i % 64)) (past-zero ws (i / 64) h) ∙ bit_at-zero (i % 64)

-- a word that is zero has no bit
pub bit-zero_word : (ws : List ℕ) (i : ℕ) → get_or ws (i / 64) 0 ≡ 0 → bit ws i ≡ 0
bit-zero_word ws i e = ap (λ w. bit_at w (i % 64)) e ∙ bit_at-zero (i % 64)

pub starts-none :
    (rows : Rows) (start : ℕ) → ((k : ℕ) (row : Vec ℕ Global) → slice_get rows k ≡ Some row → (i : ℕ) → i < 64 * start
    → bit row.items i ≡ 0) →
    StartsAt rows start
starts-none rows start h number rule before = go (slice_get rows (number % length rows)) refl
  where
    go : (o : Option (Vec ℕ Global)) → slice_get rows (number % length rows) ≡ o → is_in_row rows number rule ≡ false
    go None e =
        posted_is rows number rule (number % length rows) refl
        ∙ ap (λ o. bit (row_words o) rule == 1) e
        ∙ ne_eqb (bit [] rule) 1 (λ f. let no : ◌≡◌ {A = ℕ} 0 1 = sym (bit-outside [] rule (omega arith)) ∙ f in omega (arith, no))
    go (Some row) e = posted_none rows number rule row e (h (number % length rows) row e rule before)

groups-before : (rows : Rows) (start rule : ℕ) → StartsAt rows start → rule < 64 * start → (gs : List Group)
    → list_all (lacks_group (λ n. is_in_row rows n rule)) gs ≡ true
groups-before rows start rule starts before [] = refl
groups-before rows start rule starts before (g ∷ gs) =
    lacks-group (λ n. is_in_row rows n rule) (g ∷ gs) gs g refl (starts (group_number g.name) rule before)
    (starts (gid_number g.gid) rule before)
    (groups-before rows start rule starts before gs)

pub misses_before : (rows : Rows) (start rule : ℕ) (u : Person) → StartsAt rows start → rule < 64 * start → misses_user rows rule u ≡ true
misses_before rows start rule u starts before =
    lacks-user (λ n. is_in_row rows n rule) u (starts 0 rule before) (starts (user_number u.name) rule before)
    (starts (uid_number u.uid) rule before)
    (groups-before rows start rule starts before u.groups)
