-- Lemmas on written brackets: a bracket that is written is read, and one that is read is written.
use Rattle.std.proofs.Common.{◌≡◌, ℕ, zero, suc, ◌+◌, ◌≤◌, Bool, true, false, ◌&&◌, not, List, [], ◌∷◌, ◌++◌, length}
use Rattle.std.proofs.Common.{take, drop, refl, ap, sym, ◌∙◌, subst, Some, None, Option, arith, cond, length-append}
use Rattle.std.proofs.Common.{length-drop, append_assoc}
use Rattle.std.specs.Prelude.{slice_get, option_map, ◌==◌}
use Rattle.std.proofs.lemmas.Bool.{eqb-true, not-true}
use Rattle.sudo_base.proofs.Booleans.{and_first, and_second}
use Rattle.std.proofs.Math.Bool.{and-false}
use Rattle.sudo_base.proofs.Options.{some_injective}
use Rattle.sudo_text.specs.declared.token.Ch.{Ch}
use Rattle.sudo_match.specs.Class.{Class, class_name}
use Rattle.sudo_match.specs.Pattern.{is_plain, has, begins, class_form, class_at, class_or, range_at, item_at}
use Rattle.sudo_match.specs.Pattern.{Item, InClass, Range, Single, items_after, ByteSet, Bracket, Only}
use Rattle.sudo_match.specs.Body.Pattern.{item_of}
use Rattle.sudo_match.specs.Pattern.{AnyByte, Part, One, Star, bracket_after, bracket_or, part_at, parts, parts_after}
use Rattle.sudo_match.specs.Brackets.{goes_to, IsRange, WritesItem, WritesItems, WritesBracket}
use Rattle.sudo_match.proofs.CharsLemmas.{range_at-some}
use Rattle.sudo_match.proofs.ItemLemmas.{length-class_form, class_at-within, items_after-cons, items_after-empty, items_after-next}
use Rattle.sudo_match.proofs.PartLemmas.{bracket_after-complement, bracket_after-plain, part-star, part-any}
use Rattle.sudo_match.proofs.PartLemmas.{part-bracket, part-byte, parts-cons, parts_after-skip}

-- ---- Bools and lists

drop-true : (a b : Bool) → (a && (b && true)) ≡ false → (a && b) ≡ false
drop-true true true e = e
drop-true true false e = refl
drop-true false b e = refl

put-true : (a b : Bool) → (a && b) ≡ false → (a && (b && true)) ≡ false
put-true true true e = e
put-true true false e = refl
put-true false b e = refl

drop-append : {A : Type 0} (xs ys : List A) → drop (length xs) (xs ++ ys) ≡ ys
drop-append [] ys = refl
drop-append (x ∷ xs) ys = drop-append xs ys

take-drop : {A : Type 0} (n : ℕ) (xs : List A) → take n xs ++ drop n xs ≡ xs
take-drop zero xs = refl
take-drop (suc n) [] = refl
take-drop (suc n) (x ∷ xs) = ap (λ l. x ∷ l) (take-drop n xs)

length-taken : {A : Type 0} (n : ℕ) (xs : List A) → n ≤ length xs → length (take n xs) ≡ n
length-taken zero xs h = refl
length-taken (suc n) [] h = absurd (omega (arith, h))
length-taken (suc n) (x ∷ xs) h = ap suc (length-taken n xs (omega (arith, h)))

-- ---- What is written is read

-- a written item takes one character and some more
Read : Item → List Ch → List Ch → Type 0
Read i w after = (m : ℕ) × (length w ≡ m + 1) × (item_of (w ++ after) ≡ Some (i, m))

range-single : (c : Ch) (cs : List Ch) → goes_to cs ≡ false → range_at c cs ≡ (Single c.byte, 0)
unfolding range_at begins
range-single c [] e = refl
range-single c (d ∷ []) e = refl
range-single c (d ∷ x ∷ cs) e = ap (λ b. cond b (Range c.byte x.byte, 2) (Single c.byte, 0))
    (drop-true (is_plain 45 d) (not (is_plain 93 x)) e)

read-class : (k : Class) (w after : List Ch) → WritesItem (InClass k) w after → Read (InClass k) w after
unfolding Read
read-class k [] after e = absurd (let none : 0 ≡ length (class_form k) = e.1 in let l = length-class_form k in omega (arith, none, l))
read-class k (c ∷ w) after e = (
  length (class_name k) + 3,
  (let same : length (c ∷ w) ≡ length (class_form k) = e.1 in let l = length-class_form k in omega (arith, same, l)),
  ap (λ o. Some (class_or o (range_at c (w ++ after)))) e.0,
)

read-range : (low high : ℕ) (w after : List Ch) → class_at (w ++ after) ≡ None → IsRange low high w → Read (Range low high) w after
unfolding Read
read-range low high w after none r =
    let P : List Ch → Type 0 = λ v. class_at (v ++ after) ≡ None → Read (Range low high) v after in
    let test : (is_plain 45 r.dash && not (is_plain 93 r.last)) ≡ true =
    ap (λ b. b && not (is_plain 93 r.last)) r.dash_is ∙ ap not r.is_open in
    subst P (sym r.written) (λ e. (
      2,
      refl,
      ap (λ o. Some (class_or o (range_at r.first (r.dash ∷ r.last ∷ after)))) e
          ∙ ap Some (range_at-some r.first (r.dash ∷ r.last ∷ after) r.last refl
          ∙ ap (λ b. cond b (Range r.first.byte r.last.byte, 2) (Single r.first.byte, 0)) test)
          ∙ ap (λ b. Some (Range b r.last.byte, 2)) r.low_is
          ∙ ap (λ b. Some (Range low b, 2)) r.high_is,
    )) none

read-single : (b : ℕ) (w after : List Ch) (c : Ch) → class_at (w ++ after) ≡ None → goes_to after ≡ false → w ≡ c ∷ []
    → c.byte ≡ b → Read (Single b) w after
unfolding Read
read-single b w after c none last is byte =
    let P : List Ch → Type 0 = λ v. class_at (v ++ after) ≡ None → Read (Single b) v after in
    subst P (sym is) (λ e. (
      0,
      refl,
      ap (λ o. Some (class_or o (range_at c after))) e ∙ ap Some (range-single c after last) ∙ ap (λ x. Some (Single x, 0)) byte,
    )) none

read-item : (i : Item) (w after : List Ch) → WritesItem i w after → Read i w after
read-item (InClass k) w after e = read-class k w after e
read-item (Range low high) w after e = read-range low high w after e.0 e.1
read-item (Single b) w after e = read-single b w after e.2 e.0 e.1 e.3 e.4

read-items :
    (is_first : Bool) (items : List Item) (w : List Ch) (close : Ch) (rest : List Ch) → WritesItems is_first items w (close ∷ rest) →
    is_plain 93 close ≡ true → items_after 0 is_first (w ++ close ∷ rest) ≡ Some (items, length w + 1)
unfolding Read
read-items is_first [] w close rest e closes =
    let test : (not is_first && is_plain 93 close) ≡ true = ap (λ f. not f && is_plain 93 close) e.0 ∙ closes in
    ap (λ v. items_after 0 is_first (v ++ close ∷ rest)) e.1
    ∙ items_after-cons is_first close rest
    ∙ ap (λ b. cond b (Some ([], 1)) (option_map (λ r. ((item_at close rest).0 ∷ r.0, r.1 + 1))
    (items_after (item_at close rest).1 false rest))) test
    ∙ sym (ap (λ v. Some ([], length v + 1)) e.1)
read-items is_first (i ∷ is) w close rest e closes =
    let whole : w ++ close ∷ rest ≡ e.0 ++ (e.1 ++ close ∷ rest) = ap (λ x. x ++ close ∷ rest) e.2 ∙ append_assoc e.0 e.1 (close ∷ rest) in
    let read = read-item i e.0 (e.1 ++ close ∷ rest) e.3 in
    let count : 0 + 1 + read.0 ≡ length e.0 = (let h = read.1 in omega (arith, h)) in
    let after : drop (0 + 1 + read.0) (w ++ close ∷ rest) ≡ e.1 ++ close ∷ rest =
    ap (λ k. drop k (w ++ close ∷ rest)) count ∙ ap (drop (length e.0)) whole ∙ drop-append e.0 (e.1 ++ close ∷ rest) in
    let long : length e.1 + 1 + (read.0 + 1) ≡ length w + 1 =
    (let h = read.1 in let l = ap length e.2 in let m = length-append e.0 e.1 in omega (arith, h, l, m)) in
    items_after-next is_first 0 (w ++ close ∷ rest) i read.0 (ap item_of whole ∙ read.2) e.4
    ∙ ap (λ cs. option_map (λ q. (i ∷ q.0, q.1 + (read.0 + 1))) (items_after 0 false cs)) after
    ∙ ap (option_map (λ q. (i ∷ q.0, q.1 + (read.0 + 1)))) (read-items false is e.1 close rest e.5 closes)
    ∙ ap (λ n. Some (i ∷ is, n)) long

-- ---- Brackets

-- a character is no other
no-other : (a b : ℕ) (c : Ch) → is_plain a c ≡ true → (a == b) ≡ false → is_plain b c ≡ false
no-other a b c e f =
    let byte : c.byte ≡ a = eqb-true c.byte a (and_second (not c.escaped) (c.byte == a) e) in
    ap (λ x. not c.escaped && (x == b)) byte ∙ ap (λ x. not c.escaped && x) f ∙ and-false (not c.escaped)

bracket_part : (c : Ch) (cs : List Ch) → is_plain 91 c ≡ true → part_at c cs ≡ bracket_or (bracket_after cs) c.byte
bracket_part c cs e = part-bracket c cs (no-other 91 42 c e refl) (no-other 91 63 c e refl) e

-- the parts after one that takes some characters
cut : (c : Ch) (cs : List Ch) (p : Part) (n : ℕ) → part_at c cs ≡ (p, n) → parts (c ∷ cs) ≡ p ∷ parts (drop n cs)
cut c cs p n e = parts-cons c cs ∙ ap (λ (r : Part × ℕ). r.0 ∷ parts_after r.1 cs) e ∙ ap (λ xs. p ∷ xs) (parts_after-skip n cs)

-- the bracket that is read, and what is left after it
ReadBracket : ByteSet → List Ch → List Ch → Type 0
ReadBracket set cs rest = (n : ℕ) × (bracket_after cs ≡ Some (set, n)) × (drop n cs ≡ rest)

after-close : (body rest : List Ch) (close : Ch) → drop (length body + 1) (body ++ close ∷ rest) ≡ rest
after-close [] rest close = refl
after-close (c ∷ body) rest close =
    (let e : length (c ∷ body) + 1 ≡ suc (length body + 1) = omega arith in
    ap (λ n. drop n (c ∷ (body ++ close ∷ rest))) e) ∙ after-close body rest close

read-complement :
    (items : List Item) (c : Ch) (body : List Ch) (close : Ch) (rest : List Ch) → is_plain 33 c ≡ true
    → WritesItems true items body (close ∷ rest) →
    is_plain 93 close ≡ true → ReadBracket (Bracket true items) (c ∷ (body ++ close ∷ rest)) rest
unfolding ReadBracket
read-complement items c body close rest bang e closes = (
  suc (length body + 1),
  bracket_after-complement 0 (c ∷ (body ++ close ∷ rest)) bang
      ∙ ap (option_map (λ r. (Bracket true r.0, r.1 + 1))) (read-items true items body close rest e closes)
      ∙ (let n : length body + 1 + 1 ≡ suc (length body + 1) = omega arith in ap (λ k. Some (Bracket true items, k)) n),
  after-close body rest close,
)

read-plain :
    (items : List Item) (body : List Ch) (close : Ch) (rest : List Ch) → has (is_plain 33) (slice_get (body ++ close ∷ rest) 0) ≡ false →
    WritesItems true items body (close ∷ rest) → is_plain 93 close ≡ true → ReadBracket (Bracket false items) (body ++ close ∷ rest) rest
unfolding ReadBracket
read-plain items body close rest no_bang e closes = (
  length body + 1,
  bracket_after-plain 0 (body ++ close ∷ rest) no_bang
      ∙ ap (option_map (λ r. (Bracket false r.0, r.1))) (read-items true items body close rest e closes),
  after-close body rest close,
)

read-bracket : (complement : Bool) (items : List Item) (cs rest : List Ch) → WritesBracket complement items cs rest
    → ReadBracket (Bracket complement items) cs rest
read-bracket true items cs rest e =
    let P : List Ch → Type 0 = λ xs. ReadBracket (Bracket true items) xs rest in
    let is : cs ≡ e.sign_is.0 ∷ (e.body ++ e.close ∷ rest) = e.written ∙ ap (λ s. s ++ (e.body ++ e.close ∷ rest)) e.sign_is.1 in
    subst P (sym is) (read-complement items e.sign_is.0 e.body e.close rest e.sign_is.2 e.items_are e.closes)
read-bracket false items cs rest e =
    let P : List Ch → Type 0 = λ xs. ReadBracket (Bracket false items) xs rest in
    let is : cs ≡ e.body ++ e.close ∷ rest = e.written ∙ ap (λ s. s ++ (e.body ++ e.close ∷ rest)) e.sign_is.0 in
    subst P (sym is) (read-plain items e.body e.close rest e.sign_is.1 e.items_are e.closes)

pub bracket_is_part :
    (start : Ch) (complement : Bool) (items : List Item) (cs rest : List Ch) → is_plain 91 start ≡ true
    → WritesBracket complement items cs rest →
    parts (start ∷ cs) ≡ One (Bracket complement items) ∷ parts rest
unfolding ReadBracket
bracket_is_part start complement items cs rest e w =
    let read = read-bracket complement items cs rest w in
    cut start cs (One (Bracket complement items)) read.0 (bracket_part start cs e ∙ ap (λ o. bracket_or o start.byte) read.1)
    ∙ ap (λ xs. One (Bracket complement items) ∷ parts xs) read.2

-- ---- Other characters

pub star-is-part : (c : Ch) (cs : List Ch) → is_plain 42 c ≡ true → parts (c ∷ cs) ≡ Star ∷ parts cs
star-is-part c cs e = cut c cs Star 0 (part-star c cs e)

pub question-is-part : (c : Ch) (cs : List Ch) → is_plain 63 c ≡ true → parts (c ∷ cs) ≡ One AnyByte ∷ parts cs
question-is-part c cs e = cut c cs (One AnyByte) 0 (part-any c cs (no-other 63 42 c e refl) e)

pub byte-is-part : (c : Ch) (cs : List Ch) → is_plain 42 c ≡ false → is_plain 63 c ≡ false → is_plain 91 c ≡ false
    → parts (c ∷ cs) ≡ One (Only c.byte) ∷ parts cs
byte-is-part c cs e f g = cut c cs (One (Only c.byte)) 0 (part-byte c cs e f g)

-- ---- What is read is written

Writes : Item × ℕ → List Ch → Type 0
Writes r cs = WritesItem r.0 (take (0 + 1 + r.1) cs) (drop (0 + 1 + r.1) cs)

written-range : (c : Ch) (cs : List Ch) → class_at (c ∷ cs) ≡ None → Writes (range_at c cs) (c ∷ cs)
unfolding Writes range_at begins
written-range c [] none = (none, refl, c, refl, refl)
written-range c (d ∷ []) none = (none, and-false (is_plain 45 d), c, refl, refl)
written-range c (d ∷ x ∷ cs) none = go (is_plain 45 d && not (is_plain 93 x)) refl
  where
    go :
        (b : Bool) → (is_plain 45 d && not (is_plain 93 x)) ≡ b →
        Writes (cond b (Range c.byte x.byte, 2) (Single c.byte, 0)) (c ∷ d ∷ x ∷ cs)
    go true e = (
      none,
      record {
        first = c;
        dash = d;
        last = x;
        written = refl;
        low_is = refl;
        high_is = refl;
        dash_is = and_first (is_plain 45 d) (not (is_plain 93 x)) e;
        is_open = not-true (is_plain 93 x) (and_second (is_plain 45 d) (not (is_plain 93 x)) e);
      },
    )
    go false e = (none, put-true (is_plain 45 d) (not (is_plain 93 x)) e, c, refl, refl)

written-item : (c : Ch) (cs : List Ch) → Writes (item_at c cs) (c ∷ cs)
unfolding Writes
written-item c cs = go (class_at (c ∷ cs)) refl
  where
    go : (o : Option Class) → class_at (c ∷ cs) ≡ o → Writes (class_or o (range_at c cs)) (c ∷ cs)
    go None e = written-range c cs e
    go (Some k) e =
        let within = class_at-within k 0 (c ∷ cs) e (omega arith) in
        let l = length-class_form k in
        let long : length (take (0 + 1 + (length (class_name k) + 3)) (c ∷ cs)) ≡ 0 + 1 + (length (class_name k) + 3) =
        length-taken (0 + 1 + (length (class_name k) + 3)) (c ∷ cs) (omega (arith, within)) in
        (ap class_at (take-drop (0 + 1 + (length (class_name k) + 3)) (c ∷ cs)) ∙ e, omega (arith, long, l))

-- the characters of items, the `]` after them, and the rest
record WrittenItems (is_first : Bool) (items : List Item) (cs : List Ch) : Type 0 where
  body : List Ch
  close : Ch
  rest : List Ch
  is : cs ≡ body ++ close ∷ rest
  closes : is_plain 93 close ≡ true
  items_are : WritesItems is_first items body (close ∷ rest)

written-close : (is_first : Bool) (c : Ch) (cs : List Ch) (items : List Item) (n : ℕ)
    → (not is_first && is_plain 93 c) ≡ true → ◌≡◌ {A = Option (List Item × ℕ)} (Some ([], 1)) (Some (items, n))
    → WrittenItems is_first items (c ∷ cs)
written-close is_first c cs items n test e =
    let none : [] ≡ items = ap (λ (r : List Item × ℕ). r.0) (some_injective {A = List Item × ℕ} ([], 1) (items, n) e) in
    let P : List Item → Type 0 = λ is. WrittenItems is_first is (c ∷ cs) in
    subst P none (record {
      body = [];
      close = c;
      rest = cs;
      is = refl;
      closes = and_second (not is_first) (is_plain 93 c) test;
      items_are = (not-true is_first (and_first (not is_first) (is_plain 93 c) test), refl);
    })

written-more :
    (is_first : Bool) (c : Ch) (cs : List Ch) (is : List Item) → (not is_first && is_plain 93 c) ≡ false →
    WrittenItems false is (drop (0 + 1 + (item_at c cs).1) (c ∷ cs)) → WrittenItems is_first ((item_at c cs).0 ∷ is) (c ∷ cs)
unfolding Writes
written-more is_first c cs is test w =
    let v : List Ch = take (0 + 1 + (item_at c cs).1) (c ∷ cs) in
    let whole : c ∷ cs ≡ (v ++ w.body) ++ w.close ∷ w.rest =
    sym (take-drop (0 + 1 + (item_at c cs).1) (c ∷ cs)) ∙ ap (λ xs. v ++ xs) w.is ∙ sym (append_assoc v w.body (w.close ∷ w.rest)) in
    let P : List Ch → Type 0 = λ after. WritesItem (item_at c cs).0 v after in
    record {
      body = v ++ w.body;
      close = w.close;
      rest = w.rest;
      is = whole;
      closes = w.closes;
      items_are = (
        v,
        w.body,
        refl,
        subst P w.is (written-item c cs),
        ap (λ xs. not is_first && has (is_plain 93) (slice_get xs 0)) (sym whole) ∙ test,
        w.items_are,
      );
    }

written-items :
    (k : ℕ) (is_first : Bool) (cs : List Ch) (items : List Item) (n : ℕ) → length cs ≤ k → items_after 0 is_first cs ≡ Some (items, n) →
    WrittenItems is_first items cs
written-items k is_first [] items n h e = absurd (let none = items_after-empty is_first in
    let no : None ≡ Some (items, n) = sym none ∙ e in cc)
written-items zero is_first (c ∷ cs) items n h e = absurd (omega (arith, h))
written-items (suc k) is_first (c ∷ cs) items n h e =
    go (not is_first && is_plain 93 c) refl (λ is m. written-items k false (drop (0 + 1 + (item_at c cs).1) (c ∷ cs))
    is m (let l = length-drop (0 + 1 + (item_at c cs).1) (c ∷ cs) in omega (arith, h, l)))
  where
    more :
        (test : (not is_first && is_plain 93 c) ≡ false) (o : Option (List Item × ℕ)) →
        ◌≡◌ {A = Option (List Item × ℕ)} (Some (items, n))
        (option_map {U = List Item × ℕ} (λ q. ((item_at c cs).0 ∷ q.0, q.1 + ((item_at c cs).1 + 1))) o) →
        ((is : List Item) (m : ℕ) → o ≡ Some (is, m) → WrittenItems false is (drop (0 + 1 + (item_at c cs).1) (c ∷ cs))) →
        WrittenItems is_first items (c ∷ cs)
    more test None f next = cc
    more test (Some q) f next =
        let same : items ≡ (item_at c cs).0 ∷ q.0 =
        ap (λ (r : List Item × ℕ). r.0) (some_injective {A = List Item × ℕ} (items, n)
        ((item_at c cs).0 ∷ q.0, q.1 + ((item_at c cs).1 + 1)) f) in
        let P : List Item → Type 0 = λ is. WrittenItems is_first is (c ∷ cs) in
        subst P (sym same) (written-more is_first c cs q.0 test (next q.0 q.1 refl))

    go :
        (b : Bool) → (not is_first && is_plain 93 c) ≡ b →
        ((is : List Item) (m : ℕ) → items_after 0 false (drop (0 + 1 + (item_at c cs).1) (c ∷ cs)) ≡ Some (is, m)
        → WrittenItems false is (drop (0 + 1 + (item_at c cs).1) (c ∷ cs))) →
        WrittenItems is_first items (c ∷ cs)
    go true test next =
        written-close is_first c cs items n test
        (sym (items_after-cons is_first c cs
        ∙ ap (λ b. cond b (Some ([], 1)) (option_map (λ r. ((item_at c cs).0 ∷ r.0, r.1 + 1))
        (items_after (item_at c cs).1 false cs))) test)
        ∙ e)
    go false test next =
        more test (items_after 0 false (drop (0 + 1 + (item_at c cs).1) (c ∷ cs)))
        (sym e ∙ items_after-next is_first 0 (c ∷ cs) (item_at c cs).0 (item_at c cs).1 refl test) next

mapped : {A B : Type 0} (f : A → B) (o : Option A) (y : B) → option_map f o ≡ Some y → (x : A) × (o ≡ Some x)
mapped f None y e = cc
mapped f (Some x) y e = (x, refl)

unfoldable pub Unclosed : List Ch → Type 0
Unclosed cs = (complement : Bool) (items : List Item) (rest : List Ch) → WritesBracket complement items cs rest → ⊥

no-complement : (c : Ch) (cs : List Ch) → is_plain 33 c ≡ true → Unclosed (c ∷ cs) → (r : List Item × ℕ)
    → items_after 0 true cs ≡ Some r → ⊥
unfolding Unclosed
no-complement c cs bang none r e =
    let w : WrittenItems true r.0 cs = written-items (length cs) true cs r.0 r.1 (omega arith) e in
    none true r.0 w.rest (record {
      sign = c ∷ [];
      body = w.body;
      close = w.close;
      written = ap (λ xs. c ∷ xs) w.is;
      sign_is = (c, refl, bang);
      items_are = w.items_are;
      closes = w.closes;
    })

no-plain : (cs : List Ch) → has (is_plain 33) (slice_get cs 0) ≡ false → Unclosed cs → (r : List Item × ℕ)
    → items_after 0 true cs ≡ Some r → ⊥
unfolding Unclosed
no-plain cs no_bang none r e =
    let w : WrittenItems true r.0 cs = written-items (length cs) true cs r.0 r.1 (omega arith) e in
    none false r.0 w.rest (record {
      sign = [];
      body = w.body;
      close = w.close;
      written = w.is;
      sign_is = (refl, ap (λ xs. has (is_plain 33) (slice_get xs 0)) (sym w.is) ∙ no_bang);
      items_are = w.items_are;
      closes = w.closes;
    })

pub not_read : (cs : List Ch) → Unclosed cs → (r : ByteSet × ℕ) → bracket_after cs ≡ Some r → ⊥
not_read cs none r e = go cs none e (has (is_plain 33) (slice_get cs 0)) refl
  where
    go : (xs : List Ch) → Unclosed xs → bracket_after xs ≡ Some r → (b : Bool) → has (is_plain 33) (slice_get xs 0) ≡ b → ⊥
    go xs n f false g =
        let o = mapped (λ (q : List Item × ℕ). (Bracket false q.0, q.1)) (items_after 0 true xs) r (sym (bracket_after-plain 0 xs g) ∙ f) in
        no-plain xs g n o.0 o.1
    go [] n f true g = cc
    go (c ∷ xs) n f true g =
        let o = mapped (λ (q : List Item × ℕ). (Bracket true q.0, q.1 + 1)) (items_after 0 true xs) r
        (sym (bracket_after-complement 0 (c ∷ xs) g) ∙ f) in
        no-complement c xs g n o.0 o.1

pub unclosed_is_part : (start : Ch) (cs : List Ch) → is_plain 91 start ≡ true → Unclosed cs
    → parts (start ∷ cs) ≡ One (Only start.byte) ∷ parts cs
unclosed_is_part start cs e none = go (bracket_after cs) refl
  where
    go : (o : Option (ByteSet × ℕ)) → bracket_after cs ≡ o → parts (start ∷ cs) ≡ One (Only start.byte) ∷ parts cs
    go None f = cut start cs (One (Only start.byte)) 0 (bracket_part start cs e ∙ ap (λ o. bracket_or o start.byte) f)
    go (Some r) f = absurd (not_read cs none r f)
