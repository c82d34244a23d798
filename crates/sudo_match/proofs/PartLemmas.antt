-- Lemmas on the parts of a pattern, by their indices.
use Rattle.std.proofs.Common.{◌≡◌, ℕ, zero, suc, ◌+◌, Bool, true, false, ◌&&◌, not, List, [], ◌∷◌, drop, refl, ap}
use Rattle.std.proofs.Common.{sym, ◌∙◌, Some, None, Option, cond}
use Rattle.std.specs.Prelude.{slice_get, option_map}
use Rattle.std.specs.List.{list_any}
use Rattle.sudo_text.specs.declared.token.Ch.{Ch}
use Rattle.sudo_match.specs.Pattern.{Item}
use Rattle.sudo_match.specs.declared.patterns.Slash.{Slash}
use Rattle.sudo_match.specs.Pattern.{is_plain, has, item_holds, items_after, ByteSet, Only, AnyByte, Bracket, Part}
use Rattle.sudo_match.specs.Pattern.{One, Star, bracket_after, bracket_or, part_at, parts_after, parts}
use Rattle.sudo_match.specs.Body.Pattern.{part_of}
use Rattle.sudo_match.specs.Pattern.{is_free, set_holds}
use Rattle.sudo_match.specs.Body.Pattern.{part_holds}
use Rattle.sudo_match.proofs.CharsLemmas.{drop-some, drop-none}
use Rattle.sudo_match.proofs.ItemLemmas.{drop-drop, items_after-empty}

-- ---- Brackets

bracket_after-test : (c : Ch) (cs : List Ch) (b : Bool) → is_plain 33 c ≡ b → bracket_after (c ∷ cs) ≡
    cond b (option_map (λ r. (Bracket true r.0, r.1 + 1)) (items_after 0 true cs))
    (option_map (λ r. (Bracket false r.0, r.1)) (items_after 0 true (c ∷ cs)))
unfolding bracket_after
bracket_after-test c cs b e =
    ap (λ x. cond x (option_map (λ r. (Bracket true r.0, r.1 + 1)) (items_after 0 true cs))
    (option_map (λ r. (Bracket false r.0, r.1)) (items_after 0 true (c ∷ cs)))) e

bracket_after-empty : bracket_after [] ≡ None
unfolding bracket_after
bracket_after-empty = refl

pub bracket_after-complement :
    (n : ℕ) (cs : List Ch) → has (is_plain 33) (slice_get cs n) ≡ true →
    bracket_after (drop n cs) ≡ option_map (λ r. (Bracket true r.0, r.1 + 1)) (items_after 0 true (drop (n + 1) cs))
bracket_after-complement n cs e = go (slice_get cs n) refl
  where
    go : (o : Option Ch) → slice_get cs n ≡ o
        → bracket_after (drop n cs) ≡ option_map (λ r. (Bracket true r.0, r.1 + 1)) (items_after 0 true (drop (n + 1) cs))
    go None f = let no : has (is_plain 33) (slice_get cs n) ≡ false = ap (has (is_plain 33)) f in cc
    go (Some c) f = ap bracket_after (drop-some n cs c f) ∙ bracket_after-test c (drop (n + 1) cs) true (ap (has (is_plain 33)) (sym f) ∙ e)

pub bracket_after-plain :
    (n : ℕ) (cs : List Ch) → has (is_plain 33) (slice_get cs n) ≡ false →
    bracket_after (drop n cs) ≡ option_map (λ r. (Bracket false r.0, r.1)) (items_after 0 true (drop n cs))
bracket_after-plain n cs e = go (slice_get cs n) refl
  where
    go : (o : Option Ch) → slice_get cs n ≡ o → bracket_after (drop n cs) ≡ option_map (λ r. (Bracket false r.0, r.1))
        (items_after 0 true (drop n cs))
    go None f =
        ap bracket_after (drop-none n cs f) ∙ bracket_after-empty
        ∙ ap (option_map (λ r. (Bracket false r.0, r.1))) (sym (items_after-empty true) ∙ ap (items_after 0 true) (sym (drop-none n cs f)))
    go (Some c) f =
        ap bracket_after (drop-some n cs c f) ∙ bracket_after-test c (drop (n + 1) cs) false (ap (has (is_plain 33)) (sym f) ∙ e)
        ∙ ap (λ xs. option_map (λ r. (Bracket false r.0, r.1)) (items_after 0 true xs)) (sym (drop-some n cs c f))

-- what a set says of a byte, and how many characters it takes
abbrev pub set_answer : Slash → ℕ → ByteSet × ℕ → Bool × ℕ
set_answer s b r = (set_holds s r.0 b, r.1)

abbrev pub items_answer : ℕ → List Item × ℕ → Bool × ℕ
items_answer b r = (list_any (item_holds b) r.0, r.1)

pub complement_answer :
    (s : Slash) (b : ℕ) (o : Option (List Item × ℕ)) →
    option_map (set_answer s b) (option_map (λ r. (Bracket true r.0, r.1 + 1)) o) ≡
    option_map (λ (q : Bool × ℕ). (is_free s b && not q.0, q.1 + 1)) (option_map (items_answer b) o)
complement_answer s b None = refl
complement_answer s b (Some r) = refl

pub plain-answer :
    (s : Slash) (b : ℕ) (o : Option (List Item × ℕ)) →
    option_map (set_answer s b) (option_map (λ r. (Bracket false r.0, r.1)) o) ≡
    option_map (λ (q : Bool × ℕ). (is_free s b && q.0, q.1)) (option_map (items_answer b) o)
plain-answer s b None = refl
plain-answer s b (Some r) = refl

-- ---- Parts

abbrev pub part_answer : Slash → ℕ → Part × ℕ → Bool × ℕ
part_answer s b r = (part_holds s r.0 b, r.1)

pub part_of-at : (n : ℕ) (cs : List Ch) (c : Ch) → slice_get cs n ≡ Some c → part_of (drop n cs) ≡ Some (part_at c (drop (n + 1) cs))
part_of-at n cs c e = ap part_of (drop-some n cs c e)

part-test : (c : Ch) (cs : List Ch) (x y z : Bool) → is_plain 42 c ≡ x → is_plain 63 c ≡ y → is_plain 91 c ≡ z →
    part_at c cs ≡ cond x (Star, 0) (cond y (One AnyByte, 0) (cond z (bracket_or (bracket_after cs) c.byte) (One (Only c.byte), 0)))
unfolding part_at
part-test c cs x y z e f g =
    ap (λ a. cond a (Star, 0) (cond (is_plain 63 c) (One AnyByte, 0)
    (cond (is_plain 91 c) (bracket_or (bracket_after cs) c.byte) (One (Only c.byte), 0)))) e
    ∙ ap (λ a. cond x (Star, 0) (cond a (One AnyByte, 0) (cond (is_plain 91 c) (bracket_or (bracket_after cs) c.byte)
    (One (Only c.byte), 0)))) f
    ∙ ap (λ a. cond x (Star, 0) (cond y (One AnyByte, 0) (cond a (bracket_or (bracket_after cs) c.byte) (One (Only c.byte), 0)))) g

pub part-star : (c : Ch) (cs : List Ch) → is_plain 42 c ≡ true → part_at c cs ≡ (Star, 0)
part-star c cs e = part-test c cs true (is_plain 63 c) (is_plain 91 c) e refl refl

pub part-any : (c : Ch) (cs : List Ch) → is_plain 42 c ≡ false → is_plain 63 c ≡ true → part_at c cs ≡ (One AnyByte, 0)
part-any c cs e f = part-test c cs false true (is_plain 91 c) e f refl

pub part-bracket :
    (c : Ch) (cs : List Ch) → is_plain 42 c ≡ false → is_plain 63 c ≡ false → is_plain 91 c ≡ true →
    part_at c cs ≡ bracket_or (bracket_after cs) c.byte
part-bracket c cs e f g = part-test c cs false false true e f g

pub part-byte :
    (c : Ch) (cs : List Ch) → is_plain 42 c ≡ false → is_plain 63 c ≡ false → is_plain 91 c ≡ false →
    part_at c cs ≡ (One (Only c.byte), 0)
part-byte c cs e f g = part-test c cs false false false e f g

-- what a bracket's answer says of the part
bracket_or-cases :
    (s : Slash) (b c : ℕ) (o : Option (ByteSet × ℕ)) (r : Option (Bool × ℕ)) → r ≡ option_map (set_answer s b) o →
    (x : Bool × ℕ) → r ≡ Some x → part_answer s b (bracket_or o c) ≡ x
bracket_or-cases s b c None r e x f = cc
bracket_or-cases s b c (Some q) r e x f = let g : Some (set_answer s b q) ≡ Some x = sym e ∙ f in cc

pub bracket_or-some :
    (s : Slash) (b c : ℕ) (o : Option (ByteSet × ℕ)) (x : Bool × ℕ) → option_map (set_answer s b) o ≡ Some x →
    part_answer s b (bracket_or o c) ≡ x
bracket_or-some s b c o x e = bracket_or-cases s b c o (option_map (set_answer s b) o) refl x e

pub bracket_or-none :
    (s : Slash) (b c : ℕ) (o : Option (ByteSet × ℕ)) → option_map (set_answer s b) o ≡ None → bracket_or o c ≡ (One (Only c), 0)
bracket_or-none s b c None e = refl
bracket_or-none s b c (Some q) e = cc

-- ---- All parts

pub parts_after-skip : (n : ℕ) (cs : List Ch) → parts_after n cs ≡ parts (drop n cs)
unfolding parts_after
parts_after-skip zero cs = refl
parts_after-skip (suc n) [] = refl
parts_after-skip (suc n) (c ∷ cs) = parts_after-skip n cs

pub parts-cons : (c : Ch) (cs : List Ch) → parts (c ∷ cs) ≡ (part_at c cs).0 ∷ parts_after (part_at c cs).1 cs
unfolding parts_after
parts-cons c cs = refl

pub parts-empty : parts [] ≡ []
unfolding parts_after
parts-empty = refl

-- the parts from an index on: the part there, and those after its characters
pub parts-next :
    (n : ℕ) (cs : List Ch) (p : Part) (more : ℕ) → part_of (drop n cs) ≡ Some (p, more) →
    parts (drop n cs) ≡ p ∷ parts (drop (n + 1 + more) cs)
parts-next n cs p more e = go (slice_get cs n) refl
  where
    go : (o : Option Ch) → slice_get cs n ≡ o → parts (drop n cs) ≡ p ∷ parts (drop (n + 1 + more) cs)
    go None f = let no : part_of (drop n cs) ≡ None = ap part_of (drop-none n cs f) in cc
    go (Some c) f =
        let there : Some (part_at c (drop (n + 1) cs)) ≡ Some (p, more) = sym (part_of-at n cs c f) ∙ e in
        let same : part_at c (drop (n + 1) cs) ≡ (p, more) = cc in
        ap (λ xs. parts xs) (drop-some n cs c f) ∙ parts-cons c (drop (n + 1) cs)
        ∙ ap (λ (r : Part × ℕ). r.0 ∷ parts_after r.1 (drop (n + 1) cs)) same
        ∙ ap (λ xs. p ∷ xs) (parts_after-skip more (drop (n + 1) cs) ∙ ap (λ xs. parts xs) (drop-drop more (n + 1) cs))

pub parts-none : (n : ℕ) (cs : List Ch) → slice_get cs n ≡ None → parts (drop n cs) ≡ []
parts-none n cs e = ap (λ xs. parts xs) (drop-none n cs e) ∙ parts-empty

-- ---- Parts that are no star and no `?`

pub part-other : (c : Ch) (cs : List Ch) → is_plain 42 c ≡ false → is_plain 63 c ≡ false →
    part_at c cs ≡ cond (is_plain 91 c) (bracket_or (bracket_after cs) c.byte) (One (Only c.byte), 0)
part-other c cs e f = part-test c cs false false (is_plain 91 c) e f refl

pub other-some :
    (s : Slash) (b c : ℕ) (opens : Bool) (o : Option (ByteSet × ℕ)) (x : Bool × ℕ) →
    cond opens (option_map (set_answer s b) o) None ≡ Some x →
    part_answer s b (cond opens (bracket_or o c) (One (Only c), 0)) ≡ x
other-some s b c true o x e = bracket_or-some s b c o x e
other-some s b c false o x e = cc

pub other-none :
    (s : Slash) (b c : ℕ) (opens : Bool) (o : Option (ByteSet × ℕ)) → cond opens (option_map (set_answer s b) o) None ≡ None →
    part_answer s b (cond opens (bracket_or o c) (One (Only c), 0)) ≡ (set_holds s (Only c) b, 0)
other-none s b c true o e = ap (part_answer s b) (bracket_or-none s b c o e)
other-none s b c false o e = refl
