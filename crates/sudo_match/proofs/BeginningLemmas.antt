-- What begins otherwise than a host's name does not fit it.
use Rattle.std.proofs.Common.{◌≡◌, ℕ, suc, ◌+◌, ◌<◌, ◌≤◌, Bool, true, false, ◌&&◌, ◌||◌, not, cond, List, [], ◌∷◌}
use Rattle.std.proofs.Common.{map, length, drop, take, refl, ap, sym, ◌∙◌, Some, arith, ◌⊎◌, inl, inr}
use Rattle.std.specs.Prelude.{slice_get, ◌==◌}
use Rattle.std.specs.List.{position_or_len}
use Rattle.std.proofs.lemmas.Bool.{eqb-true, eq-eqb, ne_eqb, cases_lt, leb-false, or_parts}
use Rattle.std.proofs.Math.Dec.{leb}
use Rattle.std.proofs.lemmas.Str.Ascii.{lowercase_is}
use Rattle.sudo_base.proofs.Booleans.{and_second}
use Rattle.std.proofs.Math.Bool.{and-false}
use Rattle.sudo_text.specs.declared.token.Ch.{Ch}
use Rattle.sudo_match.specs.declared.patterns.Slash.{Slash}
use Rattle.sudo_match.specs.declared.patterns.Slash.TheVariants.{Any}
use Rattle.sudo_match.specs.Class.{lower, lower_text}
use Rattle.sudo_match.specs.HostNames.{lower_char, literal_char, free_bang, free_bangs, host_chars, quoted_chars}
use Rattle.sudo_match.specs.Pattern.{is_plain, is_byte, Only, Part, One, parts, parts_after, fits}
use Rattle.sudo_match.specs.Matching.{pattern_has_dot, short_name, compared_name, host_pattern}
use Rattle.sudo_match.specs.Beginnings.{is_special}
use Rattle.sudo_match.specs.Body.Beginnings.{is_named_otherwise}
use Rattle.sudo_match.proofs.CharsLemmas.{drop-some, drop-all}
use Rattle.sudo_match.proofs.PartLemmas.{part-byte}
use Rattle.sudo_match.proofs.FitsLemmas.{fits-one}

not_false : (b : Bool) → not b ≡ false → b ≡ true
not_false true e = refl
not_false false e = cc

-- ---- One character that is not special

parts-literal : (c : Ch) (cs : List Ch) → is_special c ≡ false → parts (c ∷ cs) ≡ One (Only c.byte) ∷ parts cs
unfolding parts_after
parts-literal c cs e =
    let star = or_parts (is_plain 42 c) (is_plain 63 c || is_plain 91 c) e in
    let others = or_parts (is_plain 63 c) (is_plain 91 c) star.1 in
    ap (λ (r : Part × ℕ). r.0 ∷ parts_after r.1 cs) (part-byte c cs star.0 others.0 others.1)

fits-literal :
    (s : Slash) (c : Ch) (cs : List Ch) (b : ℕ) (t : List ℕ) (same : Bool) → is_special c ≡ false → (b == c.byte) ≡ same →
    fits (parts (c ∷ cs)) (b ∷ t) s ≡ (same && fits (parts cs) t s)
fits-literal s c cs b t same e f =
    ap (λ p. fits p (b ∷ t) s) (parts-literal c cs e) ∙ fits-one s (Only c.byte) (parts cs) b t ∙ ap (λ x. x && fits (parts cs) t s) f

-- ---- Bytes that are not special

no-plain : (k : ℕ) (c : Ch) → (c.byte == k) ≡ false → is_plain k c ≡ false
no-plain k c e = ap (λ x. not c.escaped && x) e ∙ and-false (not c.escaped)

-- a character whose byte is not special is not special
ordinary : (b : ℕ) (c : Ch) → (b == c.byte) ≡ true → (b == 42 || (b == 63 || b == 91)) ≡ false → is_special c ≡ false
ordinary b c same e =
    let byte : b ≡ c.byte = eqb-true b c.byte same in
    let one = or_parts (b == 42) (b == 63 || b == 91) e in
    let two = or_parts (b == 63) (b == 91) one.1 in
    ap (λ x. x || (is_plain 63 c || is_plain 91 c)) (no-plain 42 c (ap (λ x. x == 42) (sym byte) ∙ one.0))
    ∙ ap (λ x. x || is_plain 91 c) (no-plain 63 c (ap (λ x. x == 63) (sym byte) ∙ two.0))
    ∙ no-plain 91 c (ap (λ x. x == 91) (sym byte) ∙ two.1)

plain-letter : (b : ℕ) → 91 < b → (b == 42 || (b == 63 || b == 91)) ≡ false
plain-letter b more =
    ap (λ x. x || (b == 63 || b == 91)) (ne_eqb b 42 (λ e. omega (arith, e, more)))
    ∙ ap (λ x. x || b == 91) (ne_eqb b 63 (λ e. omega (arith, e, more)))
    ∙ ne_eqb b 91 (λ e. omega (arith, e, more))

-- ---- Names of hosts

lower-same : (b k : ℕ) → (k < 65) ⊎ (90 < k) → k < 97 → (lower b == k) ≡ (b == k)
lower-same b k h l = go (cases_lt b 65) (cases_lt 90 b)
  where
    go : (b < 65) ⊎ (65 ≤ b) → (90 < b) ⊎ (b ≤ 90) → (lower b == k) ≡ (b == k)
    go (inl less) any = ap (λ x. x == k) ((lowercase_is b).1 less)
    go (inr low) (inl more) = ap (λ x. x == k) ((lowercase_is b).2 more)
    go (inr low) (inr high) =
        ap (λ x. x == k) ((lowercase_is b).0 (low, high))
        ∙ ne_eqb (b + 32) k (λ e. omega (arith, e, l, low))
        ∙ sym (ne_eqb b k (λ e. omega (arith, e, h, low, high)))

special-lower : (c : Ch) → is_special (lower_char c) ≡ is_special c
special-lower c =
    ap (λ x. (not c.escaped && x) || (is_plain 63 (lower_char c) || is_plain 91 (lower_char c)))
    (lower-same c.byte 42 (inl (omega arith)) (omega arith))
    ∙ ap (λ x. is_plain 42 c || ((not c.escaped && x) || is_plain 91 (lower_char c)))
    (lower-same c.byte 63 (inl (omega arith)) (omega arith))
    ∙ ap (λ x. is_plain 42 c || (is_plain 63 c || (not c.escaped && x))) (lower-same c.byte 91 (inr (omega arith)) (omega arith))

-- a character of a host's name as it is read
special-read : (f : Bool) (c : Ch) → is_special c ≡ false → is_special (lower_char (free_bang f c)) ≡ false
special-read f c e = special-lower (free_bang f c) ∙ go (f && is_byte 33 c)
  where
    go : (x : Bool) → is_special (cond x (record { byte = 33; escaped = false }) c) ≡ false
    go true = refl
    go false = e

byte-read : (f : Bool) (c : Ch) → lower (free_bang f c).byte ≡ lower c.byte
byte-read f c = go (f && is_byte 33 c) refl
  where
    go : (x : Bool) → (f && is_byte 33 c) ≡ x → lower (cond x (record { byte = 33; escaped = false }) c).byte ≡ lower c.byte
    go true e = ap lower (sym (eqb-true c.byte 33 (and_second f (is_byte 33 c) e)))
    go false e = refl

-- the whole name, or what stands before its first dot
abbrev compared : Bool → List ℕ → List ℕ
compared whole name = cond whole name (short_name name)

compared-more : (whole : Bool) (b : ℕ) (name : List ℕ) → (b == 46) ≡ false → compared whole (b ∷ name) ≡ b ∷ compared whole name
compared-more true b name e = refl
compared-more false b name e =
    let m = position_or_len (λ b. b == 46) name in
    let one : 1 + m ≡ suc m = omega arith in
    ap (λ x. take (cond (not x) (1 + m) 0) (b ∷ name)) e ∙ ap (λ n. take n (b ∷ name)) one

host-begun :
    (whole f : Bool) (cs : List Ch) (name : List ℕ) → is_named_otherwise cs name ≡ true →
    fits (parts (map lower_char (free_bangs f cs))) (lower_text (compared whole name)) Any ≡ false
unfolding is_named_otherwise free_bangs
host-begun whole f [] name e = cc
host-begun whole f (c ∷ cs) [] e = cc
host-begun whole f (c ∷ cs) (b ∷ name) e = go (λ h. host-begun whole (is_plain 91 c) cs name h) (is_special c || b == 46) refl e
  where
    next : (is_named_otherwise cs name ≡ true → fits (parts (map lower_char (free_bangs (is_plain 91 c) cs)))
        (lower_text (compared whole name)) Any ≡ false) →
        is_special c ≡ false → (x : Bool) → (lower b == lower c.byte) ≡ x → cond x (is_named_otherwise cs name) true ≡ true →
        fits (parts (lower_char (free_bang f c) ∷ map lower_char (free_bangs (is_plain 91 c) cs)))
        (lower b ∷ lower_text (compared whole name)) Any ≡ false
    next again plain true g h =
        fits-literal Any (lower_char (free_bang f c)) (map lower_char (free_bangs (is_plain 91 c) cs)) (lower b)
        (lower_text (compared whole name)) true
        (special-read f c plain) (ap (λ k. lower b == k) (byte-read f c) ∙ g)
        ∙ again h
    next again plain false g h =
        fits-literal Any (lower_char (free_bang f c)) (map lower_char (free_bangs (is_plain 91 c) cs)) (lower b)
        (lower_text (compared whole name)) false
        (special-read f c plain) (ap (λ k. lower b == k) (byte-read f c) ∙ g)

    go : (is_named_otherwise cs name ≡ true → fits (parts (map lower_char (free_bangs (is_plain 91 c) cs)))
        (lower_text (compared whole name)) Any ≡ false) →
        (x : Bool) → (is_special c || b == 46) ≡ x
        → cond x false (cond (lower b == lower c.byte) (is_named_otherwise cs name) true) ≡ true →
        fits (parts (lower_char (free_bang f c) ∷ map lower_char (free_bangs (is_plain 91 c) cs)))
        (lower_text (compared whole (b ∷ name))) Any ≡ false
    go again true g h = cc
    go again false g h =
        let two = or_parts (is_special c) (b == 46) g in
        ap (λ t. fits (parts (lower_char (free_bang f c) ∷ map lower_char (free_bangs (is_plain 91 c) cs)))
        (lower_text t) Any) (compared-more whole b name two.1)
        ∙ next again two.0 (lower b == lower c.byte) refl h

quoted-begun :
    (whole : Bool) (cs : List Ch) (name : List ℕ) → is_named_otherwise cs name ≡ true →
    fits (parts (map literal_char cs)) (lower_text (compared whole name)) Any ≡ false
unfolding is_named_otherwise
quoted-begun whole [] name e = cc
quoted-begun whole (c ∷ cs) [] e = cc
quoted-begun whole (c ∷ cs) (b ∷ name) e = go (λ h. quoted-begun whole cs name h) (is_special c || b == 46) refl e
  where
    next : (is_named_otherwise cs name ≡ true → fits (parts (map literal_char cs)) (lower_text (compared whole name)) Any ≡ false) →
        (x : Bool) → (lower b == lower c.byte) ≡ x → cond x (is_named_otherwise cs name) true ≡ true →
        fits (parts (literal_char c ∷ map literal_char cs)) (lower b ∷ lower_text (compared whole name)) Any ≡ false
    next again true g h =
        fits-literal Any (literal_char c) (map literal_char cs) (lower b) (lower_text (compared whole name)) true refl g
        ∙ again h
    next again false g h = fits-literal Any (literal_char c) (map literal_char cs) (lower b) (lower_text (compared whole name)) false refl g

    go : (is_named_otherwise cs name ≡ true → fits (parts (map literal_char cs)) (lower_text (compared whole name)) Any ≡ false) →
        (x : Bool) → (is_special c || b == 46) ≡ x
        → cond x false (cond (lower b == lower c.byte) (is_named_otherwise cs name) true) ≡ true →
        fits (parts (literal_char c ∷ map literal_char cs)) (lower_text (compared whole (b ∷ name))) Any ≡ false
    go again true g h = cc
    go again false g h =
        let two = or_parts (is_special c) (b == 46) g in
        ap (λ t. fits (parts (literal_char c ∷ map literal_char cs)) (lower_text t) Any) (compared-more whole b name two.1)
        ∙ next again (lower b == lower c.byte) refl h

-- a host whose name begins otherwise does not match
pub host-differs :
    (chars : List Ch) (quoted : Bool) (name : List ℕ) → is_named_otherwise chars name ≡ true →
    fits (parts (host_pattern chars quoted)) (lower_text (compared_name chars name)) Any ≡ false
unfolding host_chars quoted_chars
host-differs chars true name e = quoted-begun (pattern_has_dot chars) chars name e
host-differs chars false name e = host-begun (pattern_has_dot chars) false chars name e

-- ---- Comparing index by index

module _ (cs : List Ch) (t : List ℕ) (n b : ℕ) (c : Ch) (char : slice_get cs n ≡ Some c) (byte : slice_get t n ≡ Some b) where
  both : {X : Type 0} (f : List Ch → List ℕ → X) → f (drop n cs) (drop n t) ≡ f (c ∷ drop (n + 1) cs) (b ∷ drop (n + 1) t)
  both f = ap (λ l. f l (drop n t)) (drop-some n cs c char) ∙ ap (λ l. f (c ∷ drop (n + 1) cs) l) (drop-some n t b byte)

  pub named-stop : (is_special c || b == 46) ≡ true → is_named_otherwise (drop n cs) (drop n t) ≡ false
  unfolding is_named_otherwise
  named-stop stop =
      both is_named_otherwise
      ∙ ap (λ x. cond x false (cond (lower b == lower c.byte) (is_named_otherwise (drop (n + 1) cs) (drop (n + 1) t)) true)) stop

  pub named-more : (is_special c || b == 46) ≡ false → lower b ≡ lower c.byte →
      is_named_otherwise (drop n cs) (drop n t) ≡ is_named_otherwise (drop (n + 1) cs) (drop (n + 1) t)
  unfolding is_named_otherwise
  named-more on same =
      both is_named_otherwise
      ∙ ap (λ x. cond x false (cond (lower b == lower c.byte) (is_named_otherwise (drop (n + 1) cs) (drop (n + 1) t)) true)) on
      ∙ ap (λ x. cond x (is_named_otherwise (drop (n + 1) cs) (drop (n + 1) t)) true) (eq-eqb (lower b) (lower c.byte) same)

  pub named-found : (is_special c || b == 46) ≡ false → (lower b ≡ lower c.byte → ⊥) → is_named_otherwise (drop n cs) (drop n t) ≡ true
  unfolding is_named_otherwise
  named-found on other =
      both is_named_otherwise
      ∙ ap (λ x. cond x false (cond (lower b == lower c.byte) (is_named_otherwise (drop (n + 1) cs) (drop (n + 1) t)) true)) on
      ∙ ap (λ x. cond x (is_named_otherwise (drop (n + 1) cs) (drop (n + 1) t)) true) (ne_eqb (lower b) (lower c.byte) other)

-- a letter that both have is no special character and no dot
pub letter : (b : ℕ) (c : Ch) → (leb b 91 || not (b == c.byte)) ≡ false → ((is_special c || b == 46) ≡ false) × (b ≡ c.byte)
letter b c e =
    let parts_of = or_parts (leb b 91) (not (b == c.byte)) e in
    let more = leb-false b 91 parts_of.0 in
    let same = not_false (b == c.byte) parts_of.1 in (
      ap (λ x. x || b == 46) (ordinary b c same (plain-letter b more)) ∙ ne_eqb b 46 (λ f. omega (arith, f, more)),
      eqb-true b c.byte same,
    )

named-empty : (cs : List Ch) → is_named_otherwise cs [] ≡ false
unfolding is_named_otherwise
named-empty [] = refl
named-empty (c ∷ cs) = refl

pub named-end : (cs : List Ch) (t : List ℕ) (n : ℕ) → (length cs ≤ n) ⊎ (length t ≤ n) → is_named_otherwise (drop n cs) (drop n t) ≡ false
unfolding is_named_otherwise
named-end cs t n (inl h) = ap (λ l. is_named_otherwise l (drop n t)) (drop-all n cs h)
named-end cs t n (inr h) = ap (λ l. is_named_otherwise (drop n cs) l) (drop-all n t h) ∙ named-empty (drop n cs)
