-- Equal places are one, and what a map has at a place.
use Rattle.std.proofs.Common.{◌≡◌, ℕ, ◌+◌, Bool, true, false, cond, ◌||◌, ◌==◌, Option, Some, refl, sym, ◌∙◌, ap, subst, arith}
use Rattle.std.specs.Prelude.{unwrap_or}
use Rattle.std.proofs.lemmas.Bool.{and_parts, and_from, eq-eqb, eqb-true}
use Rattle.sudo_text.specs.declared.line.Place.{Place}
use Rattle.review_grants.specs.Depends.{key_of, same_place}

pub place_is : (a b : Place) → same_place a b ≡ true → a ≡ b
place_is a b h =
    let k = and_parts (a.file == b.file) (a.line == b.line) h in
    let first = λ (n : ℕ). let made : Place = record { file = n; line = a.line } in made in
    let second = λ (n : ℕ). let made : Place = record { file = b.file; line = n } in made in
    ap first (eqb-true a.file b.file k.0) ∙ ap second (eqb-true a.line b.line k.1)

pub place_same : (a : Place) → same_place a a ≡ true
place_same a = and_from (a.file == a.file) (a.line == a.line) (eq-eqb a.file a.file refl) (eq-eqb a.line a.line refl)

pub place_swap : (a b : Place) → same_place a b ≡ same_place b a
place_swap a b = go (same_place a b) (same_place b a) refl refl
  where
    go : (c d : Bool) → same_place a b ≡ c → same_place b a ≡ d → c ≡ d
    go true true e f = refl
    go false false e f = refl
    go true false e f = sym (subst (λ x. same_place x a ≡ true) (place_is a b e) (place_same a)) ∙ f
    go false true e f = sym e ∙ subst (λ x. same_place x b ≡ true) (place_is b a f) (place_same b)

-- a set with one place more
pub one_added : (q place : Place) (old : Bool) → cond (same_place place q) true old ≡ (old || same_place q place)
one_added q place old = ap (λ b. cond b true old) (place_swap place q) ∙ go (same_place q place) old
  where
    go : (a b : Bool) → cond a true b ≡ (b || a)
    go true true = refl
    go true false = refl
    go false true = refl
    go false false = refl

-- a map in which the count of a place is one more
pub one_more : (q place : Place) (had : ℕ × ℕ → Option ℕ) (has : Option ℕ) (count : ℕ) (a : Bool) → same_place q place ≡ a
    → count ≡ unwrap_or (had (key_of place)) 0 → has ≡ cond (same_place place q) (Some (count + 1)) (had (key_of q))
    → unwrap_or has 0 ≡ unwrap_or (had (key_of q)) 0 + cond a 1 0
one_more q place had has count true s c e =
    let at : same_place place q ≡ true = place_swap place q ∙ s in
    ap (λ o. unwrap_or o 0) (e ∙ ap (λ b. cond b (Some (count + 1)) (had (key_of q))) at)
    ∙ ap (λ n. n + 1) c ∙ ap (λ x. unwrap_or (had (key_of x)) 0 + 1) (sym (place_is q place s))
one_more q place had has count false s c e =
    let at : same_place place q ≡ false = place_swap place q ∙ s in
    let same : unwrap_or has 0 ≡ unwrap_or (had (key_of q)) 0 =
    ap (λ o. unwrap_or o 0) (e ∙ ap (λ b. cond b (Some (count + 1)) (had (key_of q))) at) in
    omega arith
