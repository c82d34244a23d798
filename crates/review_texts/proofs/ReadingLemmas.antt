-- Each text that `is_expression` accepts is the text of an expression: by induction over its bytes, with a stack of the open groups.
use Rattle.std.proofs.Common.{◌≡◌, ◌-◌, ◌∙◌, ◌⊎◌, inl, inr, ◌&&◌, ◌==◌, ℕ, zero, suc, Bool, true, false, cond}
use Rattle.std.proofs.Common.{List, [], ◌∷◌, ◌++◌, ap, append-nil, append_assoc, flat_map, refl, subst, sym, Option, Some, None}
use Rattle.std.specs.Prelude.{length, nat_le, nat_lt}
use Rattle.std.proofs.lemmas.Bool.{and_parts, eqb-true}
use Rattle.review_texts.specs.declared.expressions.Phase.{Phase}
use Rattle.review_texts.specs.declared.expressions.Phase.TheVariants as phases
use Rattle.review_texts.specs.Expressions.{ends_branch, holds_of, is_literal, is_member, is_outside, is_range, is_repetition, is_rest}
use Rattle.review_texts.specs.Expressions.{is_sign, member_after, piece_after}
use Rattle.review_texts.specs.Meaning.{EachIsExpression, Expression, Member, Atom, Branch, Piece, Whole, end_text, member_text, text_of}
use Rattle.review_texts.specs.Meaning.{Any, Brackets, Byte, Each, Escaped, Group, Last, Once, One, Only, Or, Repeated, Then}
use Rattle.review_texts.proofs.MeaningLemmas.{less-back, some-open}

-- ---- Building branches and expressions

-- pieces, and a last one
abbrev branch-of : List (Expression Piece) → Expression Piece → Expression Branch
branch-of [] p = Last p
branch-of (q ∷ qs) p = Then q (branch-of qs p)

abbrev pieces_text : List (Expression Piece) → List ℕ
pieces_text ps = flat_map (λ (p : Expression Piece). text_of p) ps

branch-text : (ps : List (Expression Piece)) (p : Expression Piece) → text_of (branch-of ps p) ≡ pieces_text ps ++ text_of p
branch-text [] p = refl
branch-text (q ∷ qs) p =
    ap (λ t. text_of q ++ t) (branch-text qs p) ∙ sym (append_assoc (text_of q) (pieces_text qs) (text_of p))

-- branches, each with a `|` behind it, and a last one
abbrev whole-of : List (Expression Branch) → Expression Branch → Expression Whole
whole-of [] b = Only b
whole-of (c ∷ cs) b = Or c (whole-of cs b)

abbrev branches_text : List (Expression Branch) → List ℕ
branches_text bs = flat_map (λ (b : Expression Branch). text_of b ++ 124 ∷ []) bs

whole-text : (bs : List (Expression Branch)) (b : Expression Branch) → text_of (whole-of bs b) ≡ branches_text bs ++ text_of b
whole-text [] b = refl
whole-text (c ∷ cs) b =
    ap (λ t. text_of c ++ 124 ∷ t) (whole-text cs b)
    ∙ sym (append_assoc (text_of c) (124 ∷ branches_text cs) (text_of b))
    ∙ ap (λ t. t ++ text_of b) (sym (append_assoc (text_of c) (124 ∷ []) (branches_text cs)))

-- the text of a list with one more item
pieces-more : (ps : List (Expression Piece)) (p : Expression Piece) → pieces_text (ps ++ p ∷ []) ≡ pieces_text ps ++ text_of p
pieces-more [] p = append-nil (text_of p)
pieces-more (q ∷ qs) p =
    ap (λ t. text_of q ++ t) (pieces-more qs p) ∙ sym (append_assoc (text_of q) (pieces_text qs) (text_of p))

branches-more :
    (bs : List (Expression Branch)) (b : Expression Branch) → branches_text (bs ++ b ∷ []) ≡ branches_text bs ++ (text_of b ++ 124 ∷ [])
branches-more [] b = append-nil (text_of b ++ 124 ∷ [])
branches-more (c ∷ cs) b =
    ap (λ t. (text_of c ++ 124 ∷ []) ++ t) (branches-more cs b)
    ∙ sym (append_assoc (text_of c ++ 124 ∷ []) (branches_text cs) (text_of b ++ 124 ∷ []))

members-more : (ms : List Member) (m : Member) → flat_map member_text (ms ++ m ∷ []) ≡ flat_map member_text ms ++ member_text m
members-more [] m = append-nil (member_text m)
members-more (n ∷ ns) m =
    ap (λ t. member_text n ++ t) (members-more ns m) ∙ sym (append_assoc (member_text n) (flat_map member_text ns) (member_text m))

-- ---- The innermost open group, or the whole expression, so far

-- the beginning of brackets, negated or not
abbrev opening : Bool → List ℕ
opening true = 91 ∷ 94 ∷ []
opening false = 91 ∷ []

data Reading : Phase → Type 0 where
  at_start : Reading phases.Start
  atom_read : List (Expression Piece) → Expression Atom → Reading phases.Piece
  piece_read : List (Expression Piece) → Expression Piece → Reading phases.Repeated
  sign_next : List (Expression Piece) → Reading phases.Escaped
  opened : List (Expression Piece) → Reading phases.Opened
  left_out : List (Expression Piece) → Reading phases.Negated
  byte_read : List (Expression Piece) → Bool → List Member → (a : ℕ) → is_member a ≡ true → Reading (phases.Member a)
  dash_read : List (Expression Piece) → Bool → List Member → (a : ℕ) → is_member a ≡ true → Reading (phases.Range a)
  range_read : List (Expression Piece) → Bool → List Member → (a b : ℕ) → is_range a b ≡ true → Reading phases.Ranged
  last_dash : List (Expression Piece) → Bool → List Member → (a b : ℕ) → is_range a b ≡ true → Reading phases.Dash

-- the bytes of the current branch that have been read
abbrev read_text : {p : Phase} → Reading p → List ℕ
read_text at_start = []
read_text (atom_read ps a) = pieces_text ps ++ text_of a
read_text (piece_read ps p) = pieces_text ps ++ text_of p
read_text (sign_next ps) = pieces_text ps ++ 92 ∷ []
read_text (opened ps) = pieces_text ps ++ 91 ∷ []
read_text (left_out ps) = pieces_text ps ++ 91 ∷ 94 ∷ []
read_text (byte_read ps negated ms a is) = pieces_text ps ++ (opening negated ++ (flat_map member_text ms ++ a ∷ []))
read_text (dash_read ps negated ms a is) = pieces_text ps ++ (opening negated ++ (flat_map member_text ms ++ a ∷ 45 ∷ []))
read_text (range_read ps negated ms a b is) = pieces_text ps ++ (opening negated ++ (flat_map member_text ms ++ a ∷ 45 ∷ b ∷ []))
read_text (last_dash ps negated ms a b is) = pieces_text ps ++ (opening negated ++ (flat_map member_text ms ++ a ∷ 45 ∷ b ∷ 45 ∷ []))

-- the groups that are open, each with the branches and pieces before it
data Groups : ℕ → Type 0 where
  none : Groups zero
  within : {g : ℕ} → List (Expression Branch) → List (Expression Piece) → Groups g → Groups (suc g)

abbrev groups_text : {g : ℕ} → Groups g → List ℕ
groups_text none = []
groups_text (within bs ps s) = groups_text s ++ (branches_text bs ++ (pieces_text ps ++ 40 ∷ []))

abbrev so_far : {g : ℕ} {p : Phase} → Groups g → List (Expression Branch) → Reading p → List ℕ
so_far s bs x = groups_text s ++ (branches_text bs ++ read_text x)

abbrev IsRead : List ℕ → Type 0
IsRead text = (e : Expression Whole) × (text_of e ≡ text)

-- ---- One byte more

abbrev Holds : Bool → ℕ → List ℕ → Option Phase → Type 0
Holds inside g k o = holds_of (λ next. is_rest inside g next k) o ≡ true

-- from each reading the rest of the text completes an expression
abbrev Next : Bool → List ℕ → Type 0
Next inside k =
    (g : ℕ) (p : Phase) (s : Groups g) (bs : List (Expression Branch)) (x : Reading p) → is_rest inside g p k ≡ true →
    IsRead (so_far s bs x ++ k)

grown-text : (a b t k : List ℕ) (c : ℕ) → (a ++ (b ++ (t ++ c ∷ []))) ++ k ≡ (a ++ (b ++ t)) ++ c ∷ k
grown-text a b t k c = simp append_assoc

-- a reading with one more byte
grown :
    (a b t now k : List ℕ) (c : ℕ) → now ≡ t ++ c ∷ [] → IsRead ((a ++ (b ++ now)) ++ k) → IsRead ((a ++ (b ++ t)) ++ c ∷ k)
grown a b t now k c is r = (r.0, r.1 ∙ ap (λ u. (a ++ (b ++ u)) ++ k) is ∙ grown-text a b t k c)

unless : (l v : Bool) → cond l false v ≡ true → v ≡ true
unless true v e = cc
unless false v e = e

when : (b : Bool) (p : Phase) (inside : Bool) (g : ℕ) (k : List ℕ) → Holds inside g k (cond b (Some p) None)
    → (b ≡ true) × (is_rest inside g p k ≡ true)
when true p inside g k e = (refl, e)
when false p inside g k e = cc

record IsFront (ms : List Member) (m : Member) : Type 0 where
  first : Member
  others : List Member
  is : first ∷ others ≡ ms ++ m ∷ []

front-of : (ms : List Member) (m : Member) → IsFront ms m
front-of [] m = record { first = m; others = []; is = refl }
front-of (n ∷ ns) m = record { first = n; others = ns ++ m ∷ []; is = refl }

tail-text : (p o m x : List ℕ) (c : ℕ) → (p ++ (o ++ (m ++ x))) ++ c ∷ [] ≡ p ++ (o ++ (m ++ (x ++ c ∷ [])))
tail-text p o m x c = simp append_assoc

module _ (inside : Bool) (k : List ℕ) (next : Next inside k) {g : ℕ} (s : Groups g) (bs : List (Expression Branch)) where
  abbrev Reads : List ℕ → ℕ → Type 0
  Reads t c = IsRead ((groups_text s ++ (branches_text bs ++ t)) ++ c ∷ k)

  onto : (t : List ℕ) (c : ℕ) {p : Phase} (x : Reading p) → read_text x ≡ t ++ c ∷ [] → is_rest inside g p k ≡ true → Reads t c
  onto t c {p} x is e = grown (groups_text s) (branches_text bs) t (read_text x) k c is (next g p s bs x e)

  -- a byte that begins a piece
  begin :
      (t : List ℕ) (ps : List (Expression Piece)) → t ≡ pieces_text ps → (c : ℕ) → Holds inside g k (piece_after c) → Reads t c
  begin t ps is c e = go (c == 91) refl (c == 92) refl e
    where
      literal : (l : Bool) → is_literal c ≡ l → (d : Bool) → (c == 46) ≡ d → Holds inside g k (cond l (Some phases.Piece) None)
          → Reads t c
      literal false lit d dot e = cc
      literal true lit true dot e =
          onto t c (atom_read ps Any) (ap (λ n. pieces_text ps ++ n ∷ []) (sym (eqb-true c 46 dot)) ∙ ap (λ u. u ++ c ∷ []) (sym is)) e
      literal true lit false dot e = onto t c (atom_read ps (Byte c lit dot)) (ap (λ u. u ++ c ∷ []) (sym is)) e

      go :
          (o : Bool) → (c == 91) ≡ o → (b : Bool) → (c == 92) ≡ b →
          Holds inside g k (cond o (Some phases.Opened) (cond b (Some phases.Escaped) (cond (is_literal c) (Some phases.Piece) None))) →
          Reads t c
      go true bracket b back e =
          onto t c (opened ps) (ap (λ n. pieces_text ps ++ n ∷ []) (sym (eqb-true c 91 bracket)) ∙ ap (λ u. u ++ c ∷ []) (sym is)) e
      go false bracket true back e =
          onto t c (sign_next ps) (ap (λ n. pieces_text ps ++ n ∷ []) (sym (eqb-true c 92 back)) ∙ ap (λ u. u ++ c ∷ []) (sym is)) e
      go false bracket false back e = literal (is_literal c) refl (c == 46) refl e

  -- ---- Between brackets

  -- the end of the brackets
  closed :
      (ps : List (Expression Piece)) (negated : Bool) (m : Member) (ms : List Member) (dash : Bool) (t : List ℕ) (c : ℕ) →
      t ++ c ∷ [] ≡ pieces_text ps ++ (opening negated ++ (flat_map member_text (m ∷ ms) ++ end_text dash)) →
      is_rest inside g phases.Piece k ≡ true → Reads t c
  closed ps true m ms dash t c is e = onto t c (atom_read ps (Brackets true m ms dash)) (sym is) e
  closed ps false m ms dash t c is e = onto t c (atom_read ps (Brackets false m ms dash)) (sym is) e

  ended :
      (ps : List (Expression Piece)) (negated : Bool) (ms : List Member) (m : Member) (dash : Bool) (t : List ℕ) (c : ℕ) →
      t ++ c ∷ [] ≡ pieces_text ps ++ (opening negated ++ (flat_map member_text ms ++ (member_text m ++ end_text dash))) →
      is_rest inside g phases.Piece k ≡ true → Reads t c
  ended ps negated ms m dash t c is e =
      let front = front-of ms m in
      closed ps negated front.first front.others dash t c
      (is
      ∙ ap (λ u. pieces_text ps ++ (opening negated ++ u))
      (sym (ap (λ u. u ++ end_text dash) (ap (λ xs. flat_map member_text xs) front.is ∙ members-more ms m)
      ∙ append_assoc (flat_map member_text ms) (member_text m) (end_text dash))))
      e

  -- a literal byte behind a member
  one-more :
      (ps : List (Expression Piece)) (negated : Bool) (ms : List Member) (m : Member) (t : List ℕ) (c : ℕ) →
      t ++ c ∷ [] ≡ pieces_text ps ++ (opening negated ++ (flat_map member_text ms ++ (member_text m ++ c ∷ []))) →
      Holds inside g k (member_after c) → Reads t c
  one-more ps negated ms m t c is e =
      let member = when (is_member c) (phases.Member c) inside g k e in
      onto t c (byte_read ps negated (ms ++ m ∷ []) c member.0)
      (ap (λ u. pieces_text ps ++ (opening negated ++ u))
      (ap (λ u. u ++ c ∷ []) (members-more ms m) ∙ append_assoc (flat_map member_text ms) (member_text m) (c ∷ []))
      ∙ sym is) member.1

  inner : {p : Phase} (x : Reading p) → is_outside p ≡ false → (c : ℕ) → is_rest inside g p (c ∷ k) ≡ true → Reads (read_text x) c
  inner at_start out c e = cc
  inner (atom_read ps a) out c e = cc
  inner (piece_read ps q) out c e = cc
  inner (sign_next ps) out c e =
      let sign = when (is_sign c) phases.Piece inside g k (unless _ _ e) in
      onto (pieces_text ps ++ 92 ∷ []) c (atom_read ps (Escaped c sign.0)) (sym (append_assoc (pieces_text ps) (92 ∷ []) (c ∷ []))) sign.1
  inner (opened ps) out c e = go (c == 94) refl (unless _ _ e)
    where
      go : (b : Bool) → (c == 94) ≡ b → Holds inside g k (cond b (Some phases.Negated) (member_after c))
          → Reads (pieces_text ps ++ 91 ∷ []) c
      go true caret e =
          subst (Reads (pieces_text ps ++ 91 ∷ [])) (sym (eqb-true c 94 caret))
          (onto (pieces_text ps ++ 91 ∷ []) 94 (left_out ps) (sym (append_assoc (pieces_text ps) (91 ∷ []) (94 ∷ []))) e)
      go false caret e =
          let member = when (is_member c) (phases.Member c) inside g k e in
          onto (pieces_text ps ++ 91 ∷ []) c (byte_read ps false [] c member.0)
          (sym (append_assoc (pieces_text ps) (91 ∷ []) (c ∷ []))) member.1
  inner (left_out ps) out c e =
      let member = when (is_member c) (phases.Member c) inside g k (unless _ _ e) in
      onto (pieces_text ps ++ 91 ∷ 94 ∷ []) c (byte_read ps true [] c member.0)
      (sym (append_assoc (pieces_text ps) (91 ∷ 94 ∷ []) (c ∷ []))) member.1
  inner (byte_read ps negated ms a is) out c e = go (c == 45) refl (c == 93) refl (unless _ _ e)
    where
      t : List ℕ
      t = pieces_text ps ++ (opening negated ++ (flat_map member_text ms ++ a ∷ []))

      whole : t ++ c ∷ [] ≡ pieces_text ps ++ (opening negated ++ (flat_map member_text ms ++ (a ∷ c ∷ [])))
      whole = tail-text (pieces_text ps) (opening negated) (flat_map member_text ms) (a ∷ []) c

      go :
          (b : Bool) → (c == 45) ≡ b → (d : Bool) → (c == 93) ≡ d →
          Holds inside g k (cond b (Some (phases.Range a)) (cond d (Some phases.Piece) (member_after c))) → Reads t c
      go true dash d end e =
          onto t c (dash_read ps negated ms a is)
          (ap (λ n. pieces_text ps ++ (opening negated ++ (flat_map member_text ms ++ (a ∷ n ∷ [])))) (sym (eqb-true c 45 dash))
          ∙ sym whole) e
      go false dash true end e =
          ended ps negated ms (One a is) false t c
          (whole ∙ ap (λ n. pieces_text ps ++ (opening negated ++ (flat_map member_text ms ++ (a ∷ n ∷ [])))) (eqb-true c 93 end)) e
      go false dash false end e = one-more ps negated ms (One a is) t c whole e
  inner (dash_read ps negated ms a is) out c e = go (c == 93) refl (is_range a c) refl (unless _ _ e)
    where
      t : List ℕ
      t = pieces_text ps ++ (opening negated ++ (flat_map member_text ms ++ a ∷ 45 ∷ []))

      whole : t ++ c ∷ [] ≡ pieces_text ps ++ (opening negated ++ (flat_map member_text ms ++ (a ∷ 45 ∷ c ∷ [])))
      whole = tail-text (pieces_text ps) (opening negated) (flat_map member_text ms) (a ∷ 45 ∷ []) c

      go :
          (d : Bool) → (c == 93) ≡ d → (r : Bool) → is_range a c ≡ r →
          Holds inside g k (cond d (Some phases.Piece) (cond r (Some phases.Ranged) None)) → Reads t c
      go true end r rises e =
          ended ps negated ms (One a is) true t c
          (whole ∙ ap (λ n. pieces_text ps ++ (opening negated ++ (flat_map member_text ms ++ (a ∷ 45 ∷ n ∷ [])))) (eqb-true c 93 end)) e
      go false end true rises e = onto t c (range_read ps negated ms a c rises) (sym whole) e
      go false end false rises e = cc
  inner (range_read ps negated ms a b is) out c e = go (c == 45) refl (c == 93) refl (unless _ _ e)
    where
      t : List ℕ
      t = pieces_text ps ++ (opening negated ++ (flat_map member_text ms ++ a ∷ 45 ∷ b ∷ []))

      whole : t ++ c ∷ [] ≡ pieces_text ps ++ (opening negated ++ (flat_map member_text ms ++ (a ∷ 45 ∷ b ∷ c ∷ [])))
      whole = tail-text (pieces_text ps) (opening negated) (flat_map member_text ms) (a ∷ 45 ∷ b ∷ []) c

      go :
          (x : Bool) → (c == 45) ≡ x → (d : Bool) → (c == 93) ≡ d →
          Holds inside g k (cond x (Some phases.Dash) (cond d (Some phases.Piece) (member_after c))) → Reads t c
      go true dash d end e =
          onto t c (last_dash ps negated ms a b is)
          (ap (λ n. pieces_text ps ++ (opening negated ++ (flat_map member_text ms ++ (a ∷ 45 ∷ b ∷ n ∷ [])))) (sym (eqb-true c 45 dash))
          ∙ sym whole) e
      go false dash true end e =
          ended ps negated ms (Each a b is) false t c
          (whole ∙ ap (λ n. pieces_text ps ++ (opening negated ++ (flat_map member_text ms ++ (a ∷ 45 ∷ b ∷ n ∷ []))))
          (eqb-true c 93 end)) e
      go false dash false end e = one-more ps negated ms (Each a b is) t c whole e
  inner (last_dash ps negated ms a b is) out c e = go (c == 93) refl (unless _ _ e)
    where
      t : List ℕ
      t = pieces_text ps ++ (opening negated ++ (flat_map member_text ms ++ a ∷ 45 ∷ b ∷ 45 ∷ []))

      whole : t ++ c ∷ [] ≡ pieces_text ps ++ (opening negated ++ (flat_map member_text ms ++ (a ∷ 45 ∷ b ∷ 45 ∷ c ∷ [])))
      whole = tail-text (pieces_text ps) (opening negated) (flat_map member_text ms) (a ∷ 45 ∷ b ∷ 45 ∷ []) c

      go : (d : Bool) → (c == 93) ≡ d → Holds inside g k (cond d (Some phases.Piece) None) → Reads t c
      go true end e =
          ended ps negated ms (Each a b is) true t c
          (whole ∙ ap (λ n. pieces_text ps ++ (opening negated ++ (flat_map member_text ms ++ (a ∷ 45 ∷ b ∷ 45 ∷ n ∷ []))))
          (eqb-true c 93 end)) e
      go false end e = cc

-- ---- Outside of brackets

either :
    (l o c r : Bool) (x y z v : Bool) → cond l false (cond o x (cond c y (cond r z v))) ≡ true →
    ((o ≡ true) × (x ≡ true)) ⊎ (((c ≡ true) × (y ≡ true)) ⊎ (((r ≡ true) × (z ≡ true)) ⊎ (v ≡ true)))
either true o c r x y z v e = cc
either false true c r x y z v e = inl (refl, e)
either false false true r x y z v e = inr (inl (refl, e))
either false false false true x y z v e = inr (inr (inl (refl, e)))
either false false false false x y z v e = inr (inr (inr e))

-- the current branch may end: its pieces, with the last one apart
record IsEnded (t : List ℕ) : Type 0 where
  front : List (Expression Piece)
  final : Expression Piece
  is : t ≡ pieces_text front ++ text_of final

open-text : (a b t k : List ℕ) (c : ℕ) → ((a ++ (b ++ (t ++ c ∷ []))) ++ ([] ++ [])) ++ k ≡ (a ++ (b ++ t)) ++ c ∷ k
open-text a b t k c = simp append_assoc

close-text :
    (a b p m k : List ℕ) → (a ++ (b ++ (p ++ 40 ∷ (m ++ 41 ∷ [])))) ++ k ≡ ((a ++ (b ++ (p ++ 40 ∷ []))) ++ m) ++ 41 ∷ k
close-text a b p m k = simp append_assoc

bar-text : (a b t k : List ℕ) → (a ++ ((b ++ (t ++ 124 ∷ [])) ++ [])) ++ k ≡ (a ++ (b ++ t)) ++ 124 ∷ k
bar-text a b t k = simp append_assoc

module _ (inside : Bool) (k : List ℕ) (next : Next inside k) where
  abbrev Whole-text : {g : ℕ} → Groups g → List (Expression Branch) → List ℕ → ℕ → List ℕ
  Whole-text s bs t c = (groups_text s ++ (branches_text bs ++ t)) ++ c ∷ k

  -- a group begins
  opens :
      {g : ℕ} (s : Groups g) (bs : List (Expression Branch)) (t : List ℕ) (ps : List (Expression Piece)) → t ≡ pieces_text ps →
      is_rest inside (suc g) phases.Start k ≡ true → IsRead (Whole-text s bs t 40)
  opens {g} s bs t ps is e =
      let r = next (suc g) phases.Start (within bs ps s) [] at_start e in (
        r.0,
        r.1
            ∙ ap (λ u. ((groups_text s ++ (branches_text bs ++ (u ++ 40 ∷ []))) ++ ([] ++ [])) ++ k) (sym is)
            ∙ open-text (groups_text s) (branches_text bs) t k 40,
      )

  -- a group ends
  closes :
      {g : ℕ} (s : Groups g) (bs : List (Expression Branch)) (t : List ℕ) → IsEnded t → nat_lt 0 g ≡ true →
      is_rest inside (g - 1) phases.Piece k ≡ true → IsRead (Whole-text s bs t 41)
  closes none bs t ended some e = cc
  closes (within {g} bs' ps' s) bs t ended some e =
      let whole = whole-of bs (branch-of ended.front ended.final) in
      let text = whole-text bs (branch-of ended.front ended.final)
      ∙ ap (λ u. branches_text bs ++ u) (branch-text ended.front ended.final ∙ sym ended.is) in
      let r = next g phases.Piece s bs' (atom_read ps' (Group whole))
      (subst (λ n. is_rest inside n phases.Piece k ≡ true) (less-back g) e) in (
        r.0,
        r.1
            ∙ ap (λ u. (groups_text s ++ (branches_text bs' ++ (pieces_text ps' ++ 40 ∷ (u ++ 41 ∷ [])))) ++ k) text
            ∙ close-text (groups_text s) (branches_text bs') (pieces_text ps') (branches_text bs ++ t) k,
      )

  -- another branch begins
  bars :
      {g : ℕ} (s : Groups g) (bs : List (Expression Branch)) (t : List ℕ) → IsEnded t → is_rest inside g phases.Start k ≡ true →
      IsRead (Whole-text s bs t 124)
  bars {g} s bs t ended e =
      let branch = branch-of ended.front ended.final in
      let r = next g phases.Start s (bs ++ branch ∷ []) at_start e in (
        r.0,
        r.1
            ∙ ap (λ u. (groups_text s ++ (u ++ [])) ++ k)
            (branches-more bs branch
            ∙ ap (λ u. branches_text bs ++ (u ++ 124 ∷ [])) (branch-text ended.front ended.final ∙ sym ended.is))
            ∙ bar-text (groups_text s) (branches_text bs) t k,
      )

  -- a byte outside brackets: a parenthesis, `|`, or one that continues the piece
  outer :
      {g : ℕ} (s : Groups g) (bs : List (Expression Branch)) (t : List ℕ) (ps : List (Expression Piece)) → t ≡ pieces_text ps →
      (ends : Bool) → (ends ≡ true → IsEnded t) → (l v : Bool) (c : ℕ) → (v ≡ true → IsRead (Whole-text s bs t c)) →
      cond l false
      (cond (c == 40) (is_rest inside (suc g) phases.Start k)
      (cond (c == 41) (ends && (nat_lt 0 g && is_rest inside (g - 1) phases.Piece k))
      (cond (c == 124) (ends && is_rest inside g phases.Start k) v))) ≡ true → IsRead (Whole-text s bs t c)
  outer {g} s bs t ps is ends fin l v c other e =
      go (either l (c == 40) (c == 41) (c == 124) (is_rest inside (suc g) phases.Start k)
      (ends && (nat_lt 0 g && is_rest inside (g - 1) phases.Piece k)) (ends && is_rest inside g phases.Start k) v e)
    where
      go :
          (((c == 40) ≡ true) × (is_rest inside (suc g) phases.Start k ≡ true))
          ⊎ ((((c == 41) ≡ true) × ((ends && (nat_lt 0 g && is_rest inside (g - 1) phases.Piece k)) ≡ true))
          ⊎ ((((c == 124) ≡ true) × ((ends && is_rest inside g phases.Start k) ≡ true)) ⊎ (v ≡ true))) →
          IsRead (Whole-text s bs t c)
      go (inl (at, e)) =
          subst (λ n. IsRead (Whole-text s bs t n)) (sym (eqb-true c 40 at)) (opens s bs t ps is e)
      go (inr (inl (at, e))) =
          let both = and_parts ends (nat_lt 0 g && is_rest inside (g - 1) phases.Piece k) e in
          let rest = and_parts (nat_lt 0 g) (is_rest inside (g - 1) phases.Piece k) both.1 in
          subst (λ n. IsRead (Whole-text s bs t n)) (sym (eqb-true c 41 at)) (closes s bs t (fin both.0) rest.0 rest.1)
      go (inr (inr (inl (at, e)))) =
          let both = and_parts ends (is_rest inside g phases.Start k) e in
          subst (λ n. IsRead (Whole-text s bs t n)) (sym (eqb-true c 124 at)) (bars s bs t (fin both.0) both.1)
      go (inr (inr (inr e))) = other e

  -- each reading takes the next byte
  step :
      (g : ℕ) {p : Phase} (s : Groups g) (bs : List (Expression Branch)) (x : Reading p) (c : ℕ) →
      is_rest inside g p (c ∷ k) ≡ true → IsRead (so_far s bs x ++ c ∷ k)
  step g s bs at_start c e =
      outer s bs [] [] refl false (λ bad. cc) _ _ c (λ v. begin inside k next s bs [] [] refl c v) e
  step g s bs (atom_read ps a) c e =
      outer s bs (pieces_text ps ++ text_of a) (ps ++ Once a ∷ []) (sym (pieces-more ps (Once a))) true
      (λ yes. record { front = ps; final = Once a; is = refl }) _ _ c (λ v. again (is_repetition c) refl v) e
    where
      again :
          (b : Bool) → is_repetition c ≡ b → Holds inside g k (cond b (Some phases.Repeated) (piece_after c)) →
          IsRead (Whole-text s bs (pieces_text ps ++ text_of a) c)
      again true is e =
          onto inside k next s bs (pieces_text ps ++ text_of a) c (piece_read ps (Repeated a c is))
          (sym (append_assoc (pieces_text ps) (text_of a) (c ∷ []))) e
      again false is e =
          begin inside k next s bs (pieces_text ps ++ text_of a) (ps ++ Once a ∷ []) (sym (pieces-more ps (Once a))) c e
  step g s bs (piece_read ps q) c e =
      outer s bs (pieces_text ps ++ text_of q) (ps ++ q ∷ []) (sym (pieces-more ps q)) true
      (λ yes. record { front = ps; final = q; is = refl }) _ _ c
      (λ v. begin inside k next s bs (pieces_text ps ++ text_of q) (ps ++ q ∷ []) (sym (pieces-more ps q)) c v) e
  step g s bs (sign_next ps) c e = inner inside k next s bs (sign_next ps) refl c e
  step g s bs (opened ps) c e = inner inside k next s bs (opened ps) refl c e
  step g s bs (left_out ps) c e = inner inside k next s bs (left_out ps) refl c e
  step g s bs (byte_read ps negated ms a is) c e = inner inside k next s bs (byte_read ps negated ms a is) refl c e
  step g s bs (dash_read ps negated ms a is) c e = inner inside k next s bs (dash_read ps negated ms a is) refl c e
  step g s bs (range_read ps negated ms a b is) c e = inner inside k next s bs (range_read ps negated ms a b is) refl c e
  step g s bs (last_dash ps negated ms a b is) c e = inner inside k next s bs (last_dash ps negated ms a b is) refl c e

still-open : (g : ℕ) (b : Bool) → ((suc g == 0) && b) ≡ true → ⊥
still-open g b e = let bad : false ≡ true = sym (ap (λ c. c && b) (some-open g)) ∙ e in cc

-- the end of the text
finish :
    (inside : Bool) {g : ℕ} {p : Phase} (s : Groups g) (bs : List (Expression Branch)) (x : Reading p) →
    ((g == 0) && ends_branch p) ≡ true → IsRead (so_far s bs x ++ [])
finish inside (within {g} bs' ps' s) bs x e = absurd (still-open g _ e)
finish inside none bs at_start e = cc
finish inside none bs (atom_read ps a) e = (
  whole-of bs (branch-of ps (Once a)),
  whole-text bs (branch-of ps (Once a)) ∙ ap (λ t. branches_text bs ++ t) (branch-text ps (Once a))
      ∙ sym (append-nil (branches_text bs ++ (pieces_text ps ++ text_of a))),
)
finish inside none bs (piece_read ps q) e = (
  whole-of bs (branch-of ps q),
  whole-text bs (branch-of ps q) ∙ ap (λ t. branches_text bs ++ t) (branch-text ps q)
      ∙ sym (append-nil (branches_text bs ++ (pieces_text ps ++ text_of q))),
)
finish inside none bs (sign_next ps) e = cc
finish inside none bs (opened ps) e = cc
finish inside none bs (left_out ps) e = cc
finish inside none bs (byte_read ps negated ms a is) e = cc
finish inside none bs (dash_read ps negated ms a is) e = cc
finish inside none bs (range_read ps negated ms a b is) e = cc
finish inside none bs (last_dash ps negated ms a b is) e = cc

reads :
    (inside : Bool) (rest : List ℕ) (g : ℕ) (p : Phase) (s : Groups g) (bs : List (Expression Branch)) (x : Reading p) →
    is_rest inside g p rest ≡ true → IsRead (so_far s bs x ++ rest)
reads inside [] g p s bs x e = finish inside s bs x e
reads inside (c ∷ k) g p s bs x e = step inside k (λ g p s bs x e. reads inside k g p s bs x e) g s bs x c e

pub each_is_expression : EachIsExpression
each_is_expression inside text is =
    reads inside text 0 phases.Start none [] at_start (and_parts (nat_le (length text) 1022) (is_rest inside 0 phases.Start text) is).1
