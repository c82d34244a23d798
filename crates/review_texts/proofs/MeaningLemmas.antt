-- The paths that an expression below a folder fits.
use Rattle.std.proofs.Common.{◌≡◌, ◌<◌, ◌≤◌, ◌+◌, ◌-◌, ◌∙◌, ◌⊎◌, ◌&&◌, ◌||◌, ◌==◌, ℕ, zero, suc, Bool, true, false, not, cond}
use Rattle.std.proofs.Common.{List, [], ◌∷◌, ◌++◌, ap, append-nil, append_assoc, arith, flat_map, inl, inr, length, refl, subst, sym}
use Rattle.std.proofs.Common.{Option, Some, None}
use Rattle.std.specs.Prelude.{All, codes, drop, nat_le, nat_lt, reverse, slice_index, take, take_while}
use Rattle.std.specs.List.{list_any, list_all, prefix_len}
use Rattle.std.proofs.lemmas.Bool.{and_parts, eqb-true, eq-eqb, leb-true, not-true}
use Rattle.std.proofs.lemmas.List.{drop-append-le, drop_all, length-reverse, reverse-append, reverse-reverse, take-append-drop}
use Rattle.std.proofs.lemmas.List.Elements.{All-head, All-tail, All-weaker}
use Rattle.std.proofs.lemmas.List.Folds.{list_any-append}
use Rattle.sudo_text.specs.Bytes.{is_digit}
use Rattle.sudo_grammar.specs.Words.{is_upper}
use Rattle.review_texts.specs.Options.{is_lower}
use Rattle.review_texts.specs.declared.expressions.Phase.{Phase}
use Rattle.review_texts.specs.declared.expressions.Phase.TheVariants as phases
use Rattle.review_texts.specs.Expressions.{bound_of, folder_len, is_below_folder, is_expression}
use Rattle.review_texts.specs.Expressions.{holds_of, is_expression_byte, is_literal, is_member, is_path_byte}
use Rattle.review_texts.specs.Expressions.{is_range, is_repetition, is_rest, is_sign, phase_after, piece_after}
use Rattle.review_texts.specs.Meaning.{BoundsHold, Expression, Fits, Member, Part, Atom, Branch, Piece, Whole, end_text, has_slash}
use Rattle.review_texts.specs.Meaning.{Any, Brackets, Byte, Each, Escaped, Group, Last, Once, One, Only, Or, Repeated, Then, text_of}
use Rattle.review_texts.specs.Meaning.{member_has, member_text, members_have}

-- ---- Bytes

-- neither of two holds
neither : (a b : Bool) → (a || b) ≡ false → (a ≡ false) × (b ≡ false)
neither false b e = (refl, e)
neither true b e = cc

true-not : (b : Bool) → b ≡ true → b ≡ false → ⊥
true-not b t f = let bad : true ≡ false = sym t ∙ f in cc

-- a literal byte is no metacharacter
record IsPlain (b : ℕ) : Type 0 where
  no_open : (b == 40) ≡ false
  no_close : (b == 41) ≡ false
  no_star : (b == 42) ≡ false
  no_plus : (b == 43) ≡ false
  no_mark : (b == 63) ≡ false
  no_bracket : (b == 91) ≡ false
  no_escape : (b == 92) ≡ false
  no_bar : (b == 124) ≡ false

plain : (b : ℕ) → is_literal b ≡ true → IsPlain b
plain b e =
    let none = not-true (list_any (λ other. b == other) (40 ∷ 41 ∷ 42 ∷ 43 ∷ 63 ∷ 91 ∷ 92 ∷ 93 ∷ 94 ∷ 124 ∷ []))
    (and_parts (is_expression_byte b) (not (list_any (λ other. b == other) (40 ∷ 41 ∷ 42 ∷ 43 ∷ 63 ∷ 91 ∷ 92 ∷ 93 ∷ 94 ∷ 124 ∷ []))) e).1
    in
    let a = neither (b == 40) (list_any (λ other. b == other) (41 ∷ 42 ∷ 43 ∷ 63 ∷ 91 ∷ 92 ∷ 93 ∷ 94 ∷ 124 ∷ [])) none in
    let c = neither (b == 41) (list_any (λ other. b == other) (42 ∷ 43 ∷ 63 ∷ 91 ∷ 92 ∷ 93 ∷ 94 ∷ 124 ∷ [])) a.1 in
    let d = neither (b == 42) (list_any (λ other. b == other) (43 ∷ 63 ∷ 91 ∷ 92 ∷ 93 ∷ 94 ∷ 124 ∷ [])) c.1 in
    let f = neither (b == 43) (list_any (λ other. b == other) (63 ∷ 91 ∷ 92 ∷ 93 ∷ 94 ∷ 124 ∷ [])) d.1 in
    let g = neither (b == 63) (list_any (λ other. b == other) (91 ∷ 92 ∷ 93 ∷ 94 ∷ 124 ∷ [])) f.1 in
    let h = neither (b == 91) (list_any (λ other. b == other) (92 ∷ 93 ∷ 94 ∷ 124 ∷ [])) g.1 in
    let i = neither (b == 92) (list_any (λ other. b == other) (93 ∷ 94 ∷ 124 ∷ [])) h.1 in
    let j = neither (b == 93) (list_any (λ other. b == other) (94 ∷ 124 ∷ [])) i.1 in
    let k = neither (b == 94) (list_any (λ other. b == other) (124 ∷ [])) j.1 in
    let l = neither (b == 124) false k.1 in
    record {
      no_open = a.0;
      no_close = c.0;
      no_star = d.0;
      no_plus = f.0;
      no_mark = g.0;
      no_bracket = h.0;
      no_escape = i.0;
      no_bar = l.0;
    }

-- ---- Phases outside of brackets

data Outside : Phase → Type 0 where
  at_start : Outside phases.Start
  at_piece : Outside phases.Piece
  at_repeated : Outside phases.Repeated

data Ended : Phase → Type 0 where
  by_piece : Ended phases.Piece
  by_repetition : Ended phases.Repeated

outside-of : {p : Phase} → Ended p → Outside p
outside-of by_piece = at_piece
outside-of by_repetition = at_repeated

abbrev Rest : ℕ → Phase → List ℕ → Type 0
Rest g p text = is_rest true g p text ≡ true

-- the last case of `is_rest` outside brackets: the byte is neither `.` nor `|` nor a parenthesis
under :
    (dot bar opens close top : Bool) (X Y Z V : Bool) → dot ≡ false → bar ≡ false → opens ≡ false → close ≡ false →
    cond ((dot || (bar && top)) || false) false (cond opens X (cond close Y (cond bar Z V))) ≡ true → V ≡ true
under false false false false top X Y Z V a b c d e = e
under true bar opens close top X Y Z V a b c d e = cc
under false true opens close top X Y Z V a b c d e = cc
under false false true close top X Y Z V a b c d e = cc
under false false false true top X Y Z V a b c d e = cc

-- such a byte leaves the test to `phase_after`
behind :
    (g : ℕ) {p : Phase} (b : ℕ) (k : List ℕ) → Outside p → (b == 46) ≡ false → (b == 124) ≡ false → (b == 40) ≡ false →
    (b == 41) ≡ false → Rest g p (b ∷ k) → holds_of (λ next. is_rest true g next k) (phase_after p b) ≡ true
behind g b k at_start no_dot no_bar no_open no_close e =
    under (b == 46) (b == 124) (b == 40) (b == 41) (g == 0) _ _ _ _ no_dot no_bar no_open no_close e
behind g b k at_piece no_dot no_bar no_open no_close e =
    under (b == 46) (b == 124) (b == 40) (b == 41) (g == 0) _ _ _ _ no_dot no_bar no_open no_close e
behind g b k at_repeated no_dot no_bar no_open no_close e =
    under (b == 46) (b == 124) (b == 40) (b == 41) (g == 0) _ _ _ _ no_dot no_bar no_open no_close e

no-repetition : (b : ℕ) → (b == 42) ≡ false → (b == 43) ≡ false → (b == 63) ≡ false → is_repetition b ≡ false
no-repetition b star plus mark = go (b == 42) (b == 43) (b == 63) star plus mark
  where
    go : (x y z : Bool) → x ≡ false → y ≡ false → z ≡ false → ((x || y) || z) ≡ false
    go false false z a c d = d
    go true y z a c d = cc
    go false true z a c d = cc

-- outside brackets a byte that is no repetition begins a piece
begins :
    {p : Phase} (b : ℕ) → Outside p → (b == 42) ≡ false → (b == 43) ≡ false → (b == 63) ≡ false → phase_after p b ≡ piece_after b
begins b at_start star plus mark = refl
begins b at_piece star plus mark =
    ap (λ x. cond x (Some phases.Repeated) (piece_after b)) (no-repetition b star plus mark)
begins b at_repeated star plus mark = refl

literal-piece : (b : ℕ) → is_literal b ≡ true → (b == 91) ≡ false → (b == 92) ≡ false → piece_after b ≡ Some phases.Piece
literal-piece b lit bracket escape =
    ap (λ x. cond x (Some phases.Opened) (cond (b == 92) (Some phases.Escaped) (cond (is_literal b) (Some phases.Piece) None))) bracket
    ∙ ap (λ x. cond x (Some phases.Escaped) (cond (is_literal b) (Some phases.Piece) None)) escape
    ∙ ap (λ x. cond x (Some phases.Piece) None) lit

-- a literal byte ends a piece
rest-byte :
    (g : ℕ) {p : Phase} (b : ℕ) (k : List ℕ) → Outside p → is_literal b ≡ true → (b == 46) ≡ false → Rest g p (b ∷ k) →
    Rest g phases.Piece k
rest-byte g b k out lit no_dot e =
    let n = plain b lit in
    sym (ap (holds_of (λ next. is_rest true g next k))
    (begins b out n.no_star n.no_plus n.no_mark ∙ literal-piece b lit n.no_bracket n.no_escape))
    ∙ behind g b k out no_dot n.no_bar n.no_open n.no_close e

-- an escaped sign ends a piece
rest-sign : (g : ℕ) {p : Phase} (b : ℕ) (k : List ℕ) → Outside p → is_sign b ≡ true → Rest g p (92 ∷ b ∷ k) → Rest g phases.Piece k
rest-sign g b k out is e =
    escaped (sym (ap (holds_of (λ next. is_rest true g next (b ∷ k))) (begins 92 out refl refl refl))
    ∙ behind g 92 (b ∷ k) out refl refl refl refl e)
  where
    escaped : is_rest true g phases.Escaped (b ∷ k) ≡ true → Rest g phases.Piece k
    escaped e = sym (ap (λ x. holds_of (λ next. is_rest true g next k) (cond x (Some phases.Piece) None)) is) ∙ e

rest-dot : (g : ℕ) {p : Phase} (k : List ℕ) → Outside p → Rest g p (46 ∷ k) → ⊥
rest-dot g k at_start e = cc
rest-dot g k at_piece e = cc
rest-dot g k at_repeated e = cc

rest-open : (g : ℕ) {p : Phase} (k : List ℕ) → Outside p → Rest g p (40 ∷ k) → Rest (suc g) phases.Start k
rest-open g k at_start e = e
rest-open g k at_piece e = e
rest-open g k at_repeated e = e

pub less-back : (g : ℕ) → suc g - 1 ≡ g
less-back g = omega arith

rest-close : (g : ℕ) {p : Phase} (k : List ℕ) → Ended p → Rest (suc g) p (41 ∷ k) → Rest g phases.Piece k
rest-close g k ended e = subst (λ n. Rest n phases.Piece k) (less-back g) (go ended e)
  where
    go : {p : Phase} → Ended p → Rest (suc g) p (41 ∷ k) → Rest (suc g - 1) phases.Piece k
    go by_piece e = (and_parts (nat_lt 0 (suc g)) (is_rest true (suc g - 1) phases.Piece k) e).1
    go by_repetition e = (and_parts (nat_lt 0 (suc g)) (is_rest true (suc g - 1) phases.Piece k) e).1

pub some-open : (g : ℕ) → (suc g == 0) ≡ false
some-open g = go (suc g == 0) refl
  where
    go : (b : Bool) → (suc g == 0) ≡ b → (suc g == 0) ≡ false
    go true e = absurd (let is : suc g ≡ 0 = eqb-true (suc g) 0 e in omega (arith, is))
    go false e = e

rest-bar : (g : ℕ) {p : Phase} (k : List ℕ) → Ended p → Rest (suc g) p (124 ∷ k) → Rest (suc g) phases.Start k
rest-bar g k by_piece e = sym (ap (λ b. cond (b || false) false (is_rest true (suc g) phases.Start k)) (some-open g)) ∙ e
rest-bar g k by_repetition e = sym (ap (λ b. cond (b || false) false (is_rest true (suc g) phases.Start k)) (some-open g)) ∙ e

-- outside groups no second branch is read
rest-top : {p : Phase} (k : List ℕ) → Outside p → Rest 0 p (124 ∷ k) → ⊥
rest-top k at_start e = cc
rest-top k at_piece e = cc
rest-top k at_repeated e = cc

rest-again : (g b : ℕ) (k : List ℕ) → is_repetition b ≡ true → Rest g phases.Piece (b ∷ k) → Rest g phases.Repeated k
rest-again g b k is e = go (b == 42) refl (b == 43) refl (b == 63) refl
  where
    at : (n : ℕ) → b ≡ n → is_rest true g phases.Piece (n ∷ k) ≡ true
    at n same = subst (λ m. is_rest true g phases.Piece (m ∷ k) ≡ true) same e

    go : (x : Bool) → (b == 42) ≡ x → (y : Bool) → (b == 43) ≡ y → (z : Bool) → (b == 63) ≡ z → Rest g phases.Repeated k
    go true is_star y j z l = at 42 (eqb-true b 42 is_star)
    go false i true is_plus z l = at 43 (eqb-true b 43 is_plus)
    go false i false j true is_mark = at 63 (eqb-true b 63 is_mark)
    go false i false j false l = absurd (true-not (is_repetition b) is (no-repetition b i j l))

-- ---- Brackets

-- a literal byte between brackets is neither `-` nor `]` nor `^`
record IsInner (b : ℕ) : Type 0 where
  no_dash : (b == 45) ≡ false
  no_end : (b == 93) ≡ false
  no_caret : (b == 94) ≡ false

inner : (b : ℕ) → is_member b ≡ true → IsInner b
inner b e =
    let none = not-true (list_any (λ other. b == other) (42 ∷ 43 ∷ 45 ∷ 63 ∷ 91 ∷ 92 ∷ 93 ∷ 94 ∷ []))
    (and_parts (is_expression_byte b) (not (list_any (λ other. b == other) (42 ∷ 43 ∷ 45 ∷ 63 ∷ 91 ∷ 92 ∷ 93 ∷ 94 ∷ []))) e).1 in
    let a = neither (b == 42) (list_any (λ other. b == other) (43 ∷ 45 ∷ 63 ∷ 91 ∷ 92 ∷ 93 ∷ 94 ∷ [])) none in
    let c = neither (b == 43) (list_any (λ other. b == other) (45 ∷ 63 ∷ 91 ∷ 92 ∷ 93 ∷ 94 ∷ [])) a.1 in
    let d = neither (b == 45) (list_any (λ other. b == other) (63 ∷ 91 ∷ 92 ∷ 93 ∷ 94 ∷ [])) c.1 in
    let f = neither (b == 63) (list_any (λ other. b == other) (91 ∷ 92 ∷ 93 ∷ 94 ∷ [])) d.1 in
    let g = neither (b == 91) (list_any (λ other. b == other) (92 ∷ 93 ∷ 94 ∷ [])) f.1 in
    let h = neither (b == 92) (list_any (λ other. b == other) (93 ∷ 94 ∷ [])) g.1 in
    let i = neither (b == 93) (list_any (λ other. b == other) (94 ∷ [])) h.1 in
    let j = neither (b == 94) false i.1 in
    record { no_dash = d.0; no_end = i.0; no_caret = j.0 }

-- a range is one of digits, of lower-case letters or of upper-case ones
record IsBetween (a b : ℕ) : Type 0 where
  rises : a ≤ b
  kind : ((48 ≤ a) × (b ≤ 57)) ⊎ (((97 ≤ a) × (b ≤ 122)) ⊎ ((65 ≤ a) × (b ≤ 90)))

between : (a b : ℕ) → is_range a b ≡ true → IsBetween a b
between a b e = record {
  rises = leb-true a b both.0;
  kind = kinds (is_digit a && is_digit b) refl (is_lower a && is_lower b) refl (is_upper a && is_upper b) refl;
}
  where
    both : (nat_le a b ≡ true) × ((((is_digit a && is_digit b) || (is_lower a && is_lower b)) || (is_upper a && is_upper b)) ≡ true)
    both = and_parts (nat_le a b) (((is_digit a && is_digit b) || (is_lower a && is_lower b)) || (is_upper a && is_upper b)) e

    within : (low high : ℕ) → ((nat_le low a && nat_le a high) && (nat_le low b && nat_le b high)) ≡ true → (low ≤ a) × (b ≤ high)
    within low high e =
        let sides = and_parts (nat_le low a && nat_le a high) (nat_le low b && nat_le b high) e in
        let first = and_parts (nat_le low a) (nat_le a high) sides.0 in
        let final = and_parts (nat_le low b) (nat_le b high) sides.1 in
        (leb-true low a first.0, leb-true b high final.1)

    kinds :
        (x : Bool) → (is_digit a && is_digit b) ≡ x → (y : Bool) → (is_lower a && is_lower b) ≡ y → (z : Bool) →
        (is_upper a && is_upper b) ≡ z → ((48 ≤ a) × (b ≤ 57)) ⊎ (((97 ≤ a) × (b ≤ 122)) ⊎ ((65 ≤ a) × (b ≤ 90)))
    kinds true i y j z l = inl (within 48 57 i)
    kinds false i true j z l = inr (inl (within 97 122 j))
    kinds false i false j true l = inr (inr (within 65 90 l))
    kinds false i false j false l =
        absurd (true-not (((is_digit a && is_digit b) || (is_lower a && is_lower b)) || (is_upper a && is_upper b)) both.1
        (ap (λ x. (x || (is_lower a && is_lower b)) || (is_upper a && is_upper b)) i ∙ ap (λ y. y || (is_upper a && is_upper b)) j ∙ l))

-- neither bound of a range is a byte below the digits, or one between the upper-case and the lower-case letters
no-sign : (a b n : ℕ) → IsBetween a b → (n < 48) ⊎ ((90 < n) × (n < 97)) → ((a == n) ≡ false) × ((b == n) ≡ false)
no-sign a b n is sign = (apart a (λ e. far (inl e)), apart b (λ e. far (inr e)))
  where
    apart : (x : ℕ) → (x ≡ n → ⊥) → (x == n) ≡ false
    apart x other = go (x == n) refl
      where
        go : (c : Bool) → (x == n) ≡ c → (x == n) ≡ false
        go true e = absurd (other (eqb-true x n e))
        go false e = e

    rises : a ≤ b
    rises = is.rises

    far : (a ≡ n) ⊎ (b ≡ n) → ⊥
    far at = by at is.kind sign
      where
        by : (a ≡ n) ⊎ (b ≡ n) → ((48 ≤ a) × (b ≤ 57)) ⊎ (((97 ≤ a) × (b ≤ 122)) ⊎ ((65 ≤ a) × (b ≤ 90)))
            → (n < 48) ⊎ ((90 < n) × (n < 97)) → ⊥
        by (inl e) (inl (low, high)) (inl less) = omega (arith, rises, e, low, high, less)
        by (inl e) (inl (low, high)) (inr (more, less)) = omega (arith, rises, e, low, high, more, less)
        by (inl e) (inr (inl (low, high))) (inl less) = omega (arith, rises, e, low, high, less)
        by (inl e) (inr (inl (low, high))) (inr (more, less)) = omega (arith, rises, e, low, high, more, less)
        by (inl e) (inr (inr (low, high))) (inl less) = omega (arith, rises, e, low, high, less)
        by (inl e) (inr (inr (low, high))) (inr (more, less)) = omega (arith, rises, e, low, high, more, less)
        by (inr e) (inl (low, high)) (inl less) = omega (arith, rises, e, low, high, less)
        by (inr e) (inl (low, high)) (inr (more, less)) = omega (arith, rises, e, low, high, more, less)
        by (inr e) (inr (inl (low, high))) (inl less) = omega (arith, rises, e, low, high, less)
        by (inr e) (inr (inl (low, high))) (inr (more, less)) = omega (arith, rises, e, low, high, more, less)
        by (inr e) (inr (inr (low, high))) (inl less) = omega (arith, rises, e, low, high, less)
        by (inr e) (inr (inr (low, high))) (inr (more, less)) = omega (arith, rises, e, low, high, more, less)

-- the phases behind a member
data Behind : Phase → Type 0 where
  of_byte : {a : ℕ} → Behind (phases.Member a)
  of_range : Behind phases.Ranged

abbrev Holds : ℕ → List ℕ → Option Phase → Type 0
Holds g k o = holds_of (λ next. is_rest true g next k) o ≡ true

-- the phase behind a literal byte between brackets
range-begins :
    (g a : ℕ) (k : List ℕ) → Holds g k (cond (is_member a) (Some (phases.Member a)) None) → is_rest true g (phases.Member a) k ≡ true
range-begins g a k e = go (is_member a) e
  where
    go : (b : Bool) → Holds g k (cond b (Some (phases.Member a)) None) → is_rest true g (phases.Member a) k ≡ true
    go true e = e
    go false e = cc

-- the phase behind a range
range-ends :
    (g a b : ℕ) (k : List ℕ) → is_range a b ≡ true → (b == 93) ≡ false → is_rest true g (phases.Member a) (45 ∷ b ∷ k) ≡ true →
    is_rest true g phases.Ranged k ≡ true
range-ends g a b k is no_end e =
    sym (ap (λ x. holds_of (λ next. is_rest true g next k) (cond x (Some phases.Piece) (cond (is_range a b) (Some phases.Ranged) None)))
    no_end
    ∙ ap (λ x. holds_of (λ next. is_rest true g next k) (cond x (Some phases.Ranged) None)) is) ∙ e

-- the byte behind a member, unless it is `-` or `]`, is a literal one
past :
    (g b : ℕ) (k : List ℕ) {p : Phase} → Behind p → (b == 45) ≡ false → (b == 93) ≡ false → is_rest true g p (b ∷ k) ≡ true →
    Holds g k (cond (is_member b) (Some (phases.Member b)) None)
past g b k (of_byte {a}) no_dash no_end e =
    sym (ap (λ x. holds_of (λ next. is_rest true g next k) (cond x (Some (phases.Range a))
    (cond (b == 93) (Some phases.Piece) (cond (is_member b) (Some (phases.Member b)) None)))) no_dash
    ∙ ap (λ x. holds_of (λ next. is_rest true g next k) (cond x (Some phases.Piece) (cond (is_member b) (Some (phases.Member b)) None)))
    no_end) ∙ e
past g b k of_range no_dash no_end e =
    sym (ap (λ x. holds_of (λ next. is_rest true g next k) (cond x (Some phases.Dash)
    (cond (b == 93) (Some phases.Piece) (cond (is_member b) (Some (phases.Member b)) None)))) no_dash
    ∙ ap (λ x. holds_of (λ next. is_rest true g next k) (cond x (Some phases.Piece) (cond (is_member b) (Some (phases.Member b)) None)))
    no_end) ∙ e

-- the remaining members and the closing bracket end a piece
members-end :
    (g : ℕ) (ms : List Member) (dash : Bool) (k : List ℕ) {p : Phase} → Behind p →
    is_rest true g p (flat_map member_text ms ++ (end_text dash ++ k)) ≡ true → Rest g phases.Piece k
members-end g [] true k of_byte e = e
members-end g [] false k of_byte e = e
members-end g [] true k of_range e = e
members-end g [] false k of_range e = e
members-end g (One b is ∷ ms) dash k behind e =
    let n = inner b is in
    members-end g ms dash k of_byte
    (range-begins g b (flat_map member_text ms ++ (end_text dash ++ k))
    (past g b (flat_map member_text ms ++ (end_text dash ++ k)) behind n.no_dash n.no_end e))
members-end g (Each a b is ∷ ms) dash k behind e =
    let way = between a b is in
    let rest : List ℕ = flat_map member_text ms ++ (end_text dash ++ k) in
    members-end g ms dash k of_range
    (range-ends g a b rest is (no-sign a b 93 way (inr (omega arith, omega arith))).1
    (range-begins g a (45 ∷ b ∷ rest)
    (past g a (45 ∷ b ∷ rest) behind (no-sign a b 45 way (inl (omega arith))).0
    (no-sign a b 93 way (inr (omega arith, omega arith))).0 e)))

-- the first member of brackets that are not negated
first-member :
    (g b : ℕ) (k : List ℕ) → (b == 94) ≡ false → is_rest true g phases.Opened (b ∷ k) ≡ true →
    Holds g k (cond (is_member b) (Some (phases.Member b)) None)
first-member g b k no_caret e =
    sym (ap (λ x. holds_of (λ next. is_rest true g next k)
    (cond x (Some phases.Negated) (cond (is_member b) (Some (phases.Member b)) None))) no_caret) ∙ e

opened :
    (g : ℕ) (m : Member) (ms : List Member) (dash : Bool) (k : List ℕ) →
    is_rest true g phases.Opened (flat_map member_text (m ∷ ms) ++ (end_text dash ++ k)) ≡ true → Rest g phases.Piece k
opened g (One b is) ms dash k e =
    let rest : List ℕ = flat_map member_text ms ++ (end_text dash ++ k) in
    members-end g ms dash k of_byte (range-begins g b rest (first-member g b rest (inner b is).no_caret e))
opened g (Each a b is) ms dash k e =
    let way = between a b is in
    let rest : List ℕ = flat_map member_text ms ++ (end_text dash ++ k) in
    members-end g ms dash k of_range
    (range-ends g a b rest is (no-sign a b 93 way (inr (omega arith, omega arith))).1
    (range-begins g a (45 ∷ b ∷ rest)
    (first-member g a (45 ∷ b ∷ rest) (no-sign a b 94 way (inr (omega arith, omega arith))).0 e)))

-- negated brackets are refused where an expression may not leave its folder
not-negated : (g : ℕ) (m : Member) (k : List ℕ) → is_rest true g phases.Opened (94 ∷ (member_text m ++ k)) ≡ true → ⊥
not-negated g (One b is) k e = cc
not-negated g (Each a b is) k e = cc

rest-brackets : (g : ℕ) {p : Phase} (k : List ℕ) → Outside p → Rest g p (91 ∷ k) → is_rest true g phases.Opened k ≡ true
rest-brackets g k at_start e = e
rest-brackets g k at_piece e = e
rest-brackets g k at_repeated e = e

-- ---- Expressions without a slash that leave no folder

abbrev Clean : {part : Part} → Expression part → Type 0
Clean e = (text : List ℕ) → Fits e text → has_slash text ≡ false

-- the phase behind each part: only an atom may be repeated
abbrev After : Part → ℕ → List ℕ → Type 0
After Atom g k = Rest g phases.Piece k
After Piece g k = (p : Phase) × (Ended p × Rest g p k)
After Branch g k = (p : Phase) × (Ended p × Rest g p k)
After Whole g k = (p : Phase) × (Ended p × Rest g p k)

slash-append : (xs ys : List ℕ) → has_slash (xs ++ ys) ≡ false → (has_slash xs ≡ false) × (has_slash ys ≡ false)
slash-append xs ys e =
    neither (has_slash xs) (has_slash ys) (sym (list_any-append (λ b. b == 47) xs ys) ∙ e)

both-clean : (xs ys : List ℕ) → has_slash xs ≡ false → has_slash ys ≡ false → has_slash (xs ++ ys) ≡ false
both-clean xs ys a b = list_any-append (λ b. b == 47) xs ys ∙ ap (λ x. x || has_slash ys) a ∙ b

all-clean : (parts : List (List ℕ)) → All (λ t. has_slash t ≡ false) parts → has_slash (flat_map (λ t. t) parts) ≡ false
all-clean [] all = refl
all-clean (t ∷ ts) all =
    both-clean t (flat_map (λ t. t) ts) (All-head (λ t. has_slash t ≡ false) t ts all)
    (all-clean ts (All-tail (λ t. has_slash t ≡ false) t ts all))

-- a member whose text has no slash fits none
member-clean : (m : Member) → has_slash (member_text m) ≡ false → member_has 47 m ≡ false
member-clean (One b is) e = go (47 == b) refl
  where
    go : (x : Bool) → (47 == b) ≡ x → (47 == b) ≡ false
    go true same =
        absurd (true-not (b == 47) (eq-eqb b 47 (sym (eqb-true 47 b same))) (neither (b == 47) false e).0)
    go false other = other
member-clean (Each a b is) e = go (nat_le a 47) refl (nat_le 47 b) refl
  where
    way : IsBetween a b
    way = between a b is

    go : (x : Bool) → nat_le a 47 ≡ x → (y : Bool) → nat_le 47 b ≡ y → (nat_le a 47 && nat_le 47 b) ≡ false
    go true low y high = absurd (kinds (leb-true a 47 low) way.kind)
      where
        kinds : a ≤ 47 → ((48 ≤ a) × (b ≤ 57)) ⊎ (((97 ≤ a) × (b ≤ 122)) ⊎ ((65 ≤ a) × (b ≤ 90))) → ⊥
        kinds few (inl (more, most)) = omega (arith, few, more)
        kinds few (inr (inl (more, most))) = omega (arith, few, more)
        kinds few (inr (inr (more, most))) = omega (arith, few, more)
    go false low y high = ap (λ x. x && nat_le 47 b) low

members-clean : (ms : List Member) → has_slash (flat_map member_text ms) ≡ false → list_any (member_has 47) ms ≡ false
members-clean [] e = refl
members-clean (m ∷ ms) e =
    let both = slash-append (member_text m) (flat_map member_text ms) e in
    ap (λ x. x || list_any (member_has 47) ms) (member-clean m both.0) ∙ members-clean ms both.1

brackets-clean :
    (m : Member) (ms : List Member) (dash : Bool) → has_slash (flat_map member_text (m ∷ ms)) ≡ false → Clean (Brackets false m ms dash)
brackets-clean m ms dash e text (c, (is, has)) = ap has_slash is ∙ go (c == 47) refl
  where
    none : members_have (m ∷ ms) dash 47 ≡ false
    none = ap (λ x. x || (dash && false)) (members-clean (m ∷ ms) e) ∙ never dash
      where
        never : (d : Bool) → (d && false) ≡ false
        never true = refl
        never false = refl

    go : (x : Bool) → (c == 47) ≡ x → ((c == 47) || false) ≡ false
    go true same =
        absurd (true-not (members_have (m ∷ ms) dash 47)
        (subst (λ n. members_have (m ∷ ms) dash n ≡ true) (eqb-true c 47 same) has) none)
    go false other = ap (λ x. x || false) other

clean : {part : Part} (e : Expression part) (g : ℕ) {p : Phase} (k : List ℕ) → Outside p → has_slash (text_of e) ≡ false →
    Rest g p (text_of e ++ k) → Clean e × After part g k
clean (Byte b lit no_dot) g k out none rest = ((λ text is. ap has_slash is ∙ none), rest-byte g b k out lit no_dot rest)
clean (Escaped b is) g k out none rest = ((λ text same. ap has_slash same ∙ none), rest-sign g b k out is rest)
clean Any g k out none rest = absurd (rest-dot g k out rest)
clean (Brackets true m ms dash) g k out none rest =
    absurd (not-negated g m (flat_map member_text ms ++ (end_text dash ++ k))
    (subst (λ t. is_rest true g phases.Opened (94 ∷ t) ≡ true)
    (append_assoc (flat_map member_text (m ∷ ms)) (end_text dash) k
    ∙ append_assoc (member_text m) (flat_map member_text ms) (end_text dash ++ k))
    (rest-brackets g (94 ∷ ((flat_map member_text (m ∷ ms) ++ end_text dash) ++ k)) out rest)))
clean (Brackets false m ms dash) g k out none rest = (
  brackets-clean m ms dash (slash-append (flat_map member_text (m ∷ ms)) (end_text dash) none).0,
  opened g m ms dash k
      (subst (λ t. is_rest true g phases.Opened t ≡ true) (append_assoc (flat_map member_text (m ∷ ms)) (end_text dash) k)
      (rest-brackets g ((flat_map member_text (m ∷ ms) ++ end_text dash) ++ k) out rest)),
)
clean (Group e) g k out none rest =
    let inside = clean e (suc g) (41 ∷ k) at_start (slash-append (text_of e) (41 ∷ []) none).0
    (subst (Rest (suc g) phases.Start) (append_assoc (text_of e) (41 ∷ []) k)
    (rest-open g ((text_of e ++ 41 ∷ []) ++ k) out rest)) in
    (inside.0, rest-close g k inside.1.1.0 inside.1.1.1)
clean (Once a) g k out none rest = let is = clean a g k out none rest in (is.0, (phases.Piece, (by_piece, is.1)))
clean (Repeated a b again) g {p} k out none rest =
    let is = clean a g (b ∷ k) out (slash-append (text_of a) (b ∷ []) none).0
    (subst (Rest g p) (append_assoc (text_of a) (b ∷ []) k) rest) in (
      (λ text fits.
          ap has_slash fits.1.0
          ∙ all-clean fits.0
          (All-weaker (λ t. Fits a t) (λ t. has_slash t ≡ false) (λ t one. is.0 t one) fits.0 fits.1.1.0)),
      (phases.Repeated, (by_repetition, rest-again g b k again is.1)),
    )
clean (Last e) g k out none rest = clean e g k out none rest
clean (Then e b) g {p} k out none rest =
    let parts = slash-append (text_of e) (text_of b) none in
    let first = clean e g (text_of b ++ k) out parts.0 (subst (Rest g p) (append_assoc (text_of e) (text_of b) k) rest) in
    let behind = clean b g k (outside-of first.1.1.0) parts.1 first.1.1.1 in (
      (λ text fits.
          ap has_slash fits.2.0 ∙ both-clean fits.0 fits.1 (first.0 fits.0 fits.2.1.0) (behind.0 fits.1 fits.2.1.1)),
      behind.1,
    )
clean (Only b) g k out none rest = clean b g k out none rest
clean (Or b e) g {p} k out none rest =
    let parts = slash-append (text_of b) (124 ∷ text_of e) none in
    let first = clean b g (124 ∷ (text_of e ++ k)) out parts.0
    (subst (Rest g p) (append_assoc (text_of b) (124 ∷ text_of e) k) rest) in
    other g first.0 first.1.1.0 first.1.1.1 (λ n r. clean e n k at_start parts.1 r)
  where
    other : (g : ℕ) → Clean b → {q : Phase} → Ended q → Rest g q (124 ∷ (text_of e ++ k)) →
        ((n : ℕ) → Rest n phases.Start (text_of e ++ k) → Clean e × After Whole n k) → Clean (Or b e) × After Whole g k
    other zero one ended rest next = absurd (rest-top (text_of e ++ k) (outside-of ended) rest)
    other (suc g) one ended rest next =
        let behind = next (suc g) (rest-bar g (text_of e ++ k) ended rest) in (
          (λ text fits. elim fits [ inl a ↦ one text a | inr c ↦ behind.0 text c ]),
          behind.1,
        )

-- ---- The bytes of the folder

abbrev OfPath : ℕ → Type 0
OfPath b = is_path_byte b ≡ true

abbrev AllOfPath : List ℕ → Type 0
AllOfPath fs = list_all is_path_byte fs ≡ true

-- an atom that begins with a byte of the folder is that byte
record IsFirst (a : Expression Atom) (f : ℕ) (k xs : List ℕ) : Type 0 where
  rest : k ≡ xs
  fits : (text : List ℕ) → Fits a text → text ≡ f ∷ []

first-byte : (a : Expression Atom) (k : List ℕ) (f : ℕ) (xs : List ℕ) → text_of a ++ k ≡ f ∷ xs → OfPath f → IsFirst a f k xs
first-byte (Byte b lit no_dot) k f xs e path =
    let same : b ≡ f = cc in
    record { rest = cc; fits = λ text is. is ∙ ap (λ c. c ∷ []) same }
first-byte (Escaped b is) k f xs e path =
    let same : 92 ≡ f = cc in absurd (let bad : is_path_byte 92 ≡ true = ap is_path_byte same ∙ path in cc)
first-byte Any k f xs e path =
    let same : 46 ≡ f = cc in absurd (let bad : is_path_byte 46 ≡ true = ap is_path_byte same ∙ path in cc)
first-byte (Brackets true m ms dash) k f xs e path =
    let same : 91 ≡ f = cc in absurd (let bad : is_path_byte 91 ≡ true = ap is_path_byte same ∙ path in cc)
first-byte (Brackets false m ms dash) k f xs e path =
    let same : 91 ≡ f = cc in absurd (let bad : is_path_byte 91 ≡ true = ap is_path_byte same ∙ path in cc)
first-byte (Group r) k f xs e path =
    let same : 40 ≡ f = cc in absurd (let bad : is_path_byte 40 ≡ true = ap is_path_byte same ∙ path in cc)

-- no byte of the folder is repeated
not-again :
    (b : ℕ) (k fs rest : List ℕ) → is_repetition b ≡ true → AllOfPath fs → Rest 0 phases.Start rest → b ∷ k ≡ fs ++ rest → ⊥
not-again b k fs rest is path start e = go (b == 42) refl (b == 43) refl (b == 63) refl
  where
    at : (n : ℕ) → b ≡ n → is_path_byte n ≡ false → ((t : List ℕ) → is_rest true 0 phases.Start (n ∷ t) ≡ false) → ⊥
    at n same outside none = by fs path e
      where
        by : (fs : List ℕ) → AllOfPath fs → b ∷ k ≡ fs ++ rest → ⊥
        by [] path e = true-not (is_rest true 0 phases.Start (n ∷ k))
            (subst (λ t. is_rest true 0 phases.Start t ≡ true) (sym e ∙ ap (λ c. c ∷ k) same) start) (none k)
        by (f ∷ fs) path e =
            let one : b ≡ f = cc in
            let first = (and_parts (is_path_byte f) (list_all is_path_byte fs) path).0 in
            true-not (is_path_byte n) (ap is_path_byte (sym same ∙ one) ∙ first) outside

    go : (x : Bool) → (b == 42) ≡ x → (y : Bool) → (b == 43) ≡ y → (z : Bool) → (b == 63) ≡ z → ⊥
    go true i y j z l = at 42 (eqb-true b 42 i) refl (λ t. refl)
    go false i true j z l = at 43 (eqb-true b 43 j) refl (λ t. refl)
    go false i false j true l = at 63 (eqb-true b 63 l) refl (λ t. refl)
    go false i false j false l = true-not (is_repetition b) is (no-repetition b i j l)

-- the text behind a branch outside groups: none, or `|` and further branches
data EndsBranch : List ℕ → Type 0 where
  by_end : EndsBranch []
  by_bar : {k : List ℕ} → EndsBranch (124 ∷ k)

not-there : (fs rest : List ℕ) {k : List ℕ} → EndsBranch k → AllOfPath fs → Rest 0 phases.Start rest → k ≡ fs ++ rest → ⊥
not-there [] rest by_end path start e =
    true-not (is_rest true 0 phases.Start []) (subst (λ t. is_rest true 0 phases.Start t ≡ true) (sym e) start) refl
not-there (f ∷ fs) rest by_end path start e = cc
not-there [] rest (by_bar {k}) path start e =
    rest-top k at_start (subst (λ t. is_rest true 0 phases.Start t ≡ true) (sym e) start)
not-there (f ∷ fs) rest (by_bar {k}) path start e =
    let same : 124 ≡ f = cc in
    let bad : is_path_byte 124 ≡ true =
    ap is_path_byte same ∙ (and_parts (is_path_byte f) (list_all is_path_byte fs) path).0 in cc

-- each text that the branch fits is the folder followed by a name without a slash
abbrev IsBelow : List ℕ → Expression Branch → Type 0
IsBelow fs b = (text : List ℕ) → Fits b text → (name : List ℕ) × ((text ≡ fs ++ name) × (has_slash name ≡ false))

below :
    (fs rest : List ℕ) (b : Expression Branch) (k : List ℕ) → AllOfPath fs → Rest 0 phases.Start rest → has_slash rest ≡ false →
    EndsBranch k → text_of b ++ k ≡ fs ++ rest → IsBelow fs b × ((q : Phase) × (Ended q × Rest 0 q k))
below [] rest b k path start none ends e =
    let is = clean b 0 k at_start (slash-append (text_of b) k (ap has_slash e ∙ none)).0
    (subst (λ t. is_rest true 0 phases.Start t ≡ true) (sym e) start) in
    ((λ text fits. (text, (refl, is.0 text fits))), is.1)
below (f ∷ fs) rest (Last (Once a)) k path start none ends e =
    let both = and_parts (is_path_byte f) (list_all is_path_byte fs) path in
    let first = first-byte a k f (fs ++ rest) e both.0 in
    absurd (not-there fs rest ends both.1 start first.rest)
below (f ∷ fs) rest (Last (Repeated a b is)) k path start none ends e =
    let both = and_parts (is_path_byte f) (list_all is_path_byte fs) path in
    let first = first-byte a (b ∷ k) f (fs ++ rest) (sym (append_assoc (text_of a) (b ∷ []) k) ∙ e) both.0 in
    absurd (not-again b k fs rest is both.1 start first.rest)
below (f ∷ fs) rest (Then (Once a) more) k path start none ends e =
    let both = and_parts (is_path_byte f) (list_all is_path_byte fs) path in
    let first = first-byte a (text_of more ++ k) f (fs ++ rest) (sym (append_assoc (text_of a) (text_of more) k) ∙ e) both.0 in
    let behind = below fs rest more k both.1 start none ends first.rest in (
      (λ text fits.
          let one = first.fits fits.0 fits.2.1.0 in
          let name = behind.0 fits.1 fits.2.1.1 in
          (name.0, (fits.2.0 ∙ ap (λ t. t ++ fits.1) one ∙ ap (λ t. f ∷ t) name.1.0, name.1.1))),
      behind.1,
    )
below (f ∷ fs) rest (Then (Repeated a b is) more) k path start none ends e =
    let both = and_parts (is_path_byte f) (list_all is_path_byte fs) path in
    let first = first-byte a (b ∷ (text_of more ++ k)) f (fs ++ rest)
    (sym (append_assoc (text_of a) (b ∷ []) (text_of more ++ k))
    ∙ sym (append_assoc (text_of a ++ b ∷ []) (text_of more) k) ∙ e) both.0 in
    absurd (not-again b (text_of more ++ k) fs rest is both.1 start first.rest)

-- ---- Behind the last slash

abbrev is_other : ℕ → Bool
is_other b = not (b == 47)

abbrev behind_last : List ℕ → List ℕ
behind_last ys = drop (length ys - length (take_while is_other ys)) (reverse ys)

abbrev while_len : List ℕ → ℕ
while_len ys = length (take_while is_other ys)

while-true : (y : ℕ) (ys : List ℕ) → is_other y ≡ true → while_len (y ∷ ys) ≡ suc (while_len ys)
while-true y ys e =
    ap (λ c. length (take (cond c (1 + prefix_len is_other ys) 0) (y ∷ ys))) e
    ∙ ap (λ n. length (take n (y ∷ ys))) (let one : 1 + prefix_len is_other ys ≡ suc (prefix_len is_other ys) = omega arith in one)

while-false : (y : ℕ) (ys : List ℕ) → is_other y ≡ false → while_len (y ∷ ys) ≡ 0
while-false y ys e = ap (λ c. length (take (cond c (1 + prefix_len is_other ys) 0) (y ∷ ys))) e

while-short : (ys : List ℕ) → while_len ys ≤ length ys
while-short [] = omega arith
while-short (y ∷ ys) = go (is_other y) refl (while-short ys)
  where
    go : (b : Bool) → is_other y ≡ b → while_len ys ≤ length ys → while_len (y ∷ ys) ≤ length (y ∷ ys)
    go true e less = let is = while-true y ys e in omega (arith, less, is)
    go false e less = let is = while-false y ys e in omega (arith, is)

no-slash-behind : (ys : List ℕ) → has_slash (behind_last ys) ≡ false
no-slash-behind [] = refl
no-slash-behind (y ∷ ys) = go (is_other y) refl (no-slash-behind ys)
  where
    less : while_len ys ≤ length ys
    less = while-short ys

    long : length (reverse ys) ≡ length ys
    long = length-reverse ys

    go : (b : Bool) → is_other y ≡ b → has_slash (behind_last ys) ≡ false → has_slash (behind_last (y ∷ ys)) ≡ false
    go true other before =
        let is = while-true y ys other in
        ap (λ t. has_slash (drop (length (y ∷ ys) - while_len (y ∷ ys)) t)) (reverse-append (y ∷ []) ys)
        ∙ ap (λ n. has_slash (drop n (reverse ys ++ y ∷ [])))
        (let n : length (y ∷ ys) - while_len (y ∷ ys) ≡ length ys - while_len ys = omega (arith, less, is) in n)
        ∙ ap has_slash (drop-append-le (length ys - while_len ys) (reverse ys) (y ∷ []) (omega (arith, long)))
        ∙ both-clean (behind_last ys) (y ∷ []) before (ap (λ x. x || false) (not-true (y == 47) other))
    go false slash before =
        let is = while-false y ys slash in
        let all = length-reverse (y ∷ ys) in
        ap has_slash (drop_all (length (y ∷ ys) - while_len (y ∷ ys)) (reverse (y ∷ ys)) (omega (arith, is, all)))

clean-rest : (text : List ℕ) → has_slash (drop (folder_len text) text) ≡ false
clean-rest text =
    ap (λ t. has_slash (drop (length text - length (take_while is_other (reverse text))) t)) (sym (reverse-reverse text))
    ∙ ap (λ n. has_slash (drop (n - length (take_while is_other (reverse text))) (reverse (reverse text)))) (sym (length-reverse text))
    ∙ no-slash-behind (reverse text)

-- ---- The law

module _ (text : List ℕ) (is : is_below_folder text ≡ true) where
  abbrev fs : List ℕ
  fs = take (folder_len text) text

  abbrev rest : List ℕ
  rest = drop (folder_len text) text

  sides : (((slice_index text 0 == 47) && list_all is_path_byte fs) ≡ true) × (is_expression true rest ≡ true)
  sides = and_parts ((slice_index text 0 == 47) && list_all is_path_byte fs) (is_expression true rest) is

  of_path : AllOfPath fs
  of_path = (and_parts (slice_index text 0 == 47) (list_all is_path_byte fs) sides.0).1

  started : Rest 0 phases.Start rest
  started = (and_parts (nat_le (length rest) 1022) (is_rest true 0 phases.Start rest) sides.1).1

  whole-text : text ≡ fs ++ rest
  whole-text = sym (take-append-drop (folder_len text) text)

  bound : bound_of text ≡ fs
  bound = ap (λ b. cond b fs (codes "ALL")) is

-- each path that an expression below a folder fits is that of a file of the folder
pub bounds_hold : BoundsHold
bounds_hold (Only b) is path fits =
    let text = text_of b in
    let found = (below (fs text is) (rest text is) b [] (of_path text is) (started text is) (clean-rest text) by_end
    (append-nil (text_of b) ∙ whole-text text is)).0 path fits in
    (found.0, (found.1.0 ∙ ap (λ t. t ++ found.0) (sym (bound text is)), found.1.1))
bounds_hold (Or b e) is path fits =
    let text = text_of b ++ 124 ∷ text_of e in
    let behind = (below (fs text is) (rest text is) b (124 ∷ text_of e) (of_path text is) (started text is) (clean-rest text) by_bar
    (whole-text text is)).1 in
    absurd (rest-top (text_of e) (outside-of behind.1.0) behind.1.1)
