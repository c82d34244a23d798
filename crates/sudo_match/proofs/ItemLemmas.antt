-- Lemmas on the items of a bracket, by their indices.
use Rattle.std.proofs.Common.{◌≡◌, ℕ, zero, suc, ◌+◌, ◌-◌, ◌<◌, ◌≤◌, Bool, true, false, ◌&&◌, ◌||◌, not, List, []}
use Rattle.std.proofs.Common.{◌∷◌, ◌++◌, map, length, drop, refl, ap, sym, ◌∙◌, Some, None, Option, arith, zero-add}
use Rattle.std.proofs.Common.{add-zero, cond, length-drop, length-append}
use Rattle.std.specs.Prelude.{slice_get, option_map, find}
use Rattle.std.specs.List.{list_any}
use Rattle.sudo_base.proofs.Booleans.{and_second}
use Rattle.sudo_base.proofs.Lists.{find-holds}
use Rattle.std.proofs.lemmas.List.{length-map}
use Rattle.sudo_text.specs.declared.token.Ch.{Ch}
use Rattle.sudo_match.specs.Pattern.{Item}
use Rattle.sudo_match.specs.Pattern.{InClass}
use Rattle.sudo_match.specs.Class.{Class}
use Rattle.sudo_match.specs.Body.Shown.{class_of, class_at_start, known_classes, held_by}
use Rattle.sudo_match.specs.declared.patterns.Class as shown
use Rattle.sudo_match.specs.Class.{class_name, classes}
use Rattle.sudo_match.specs.Pattern.{is_byte, is_plain, has, begins, class_form, class_end, class_at, class_or}
use Rattle.sudo_match.specs.Pattern.{range_at, item_at, item_holds, items_after}
use Rattle.sudo_match.specs.Body.Pattern.{item_of}
use Rattle.sudo_match.proofs.CharsLemmas.{drop-some, drop-none, begins-length, slice_get-drop}

-- ---- One item

find-step :
    {A : Type 0} (p : A → Bool) (y : A) (o : Option A) (x : A) → (o ≡ Some x → p x ≡ true) → (b : Bool) → p y ≡ b →
    cond b (Some y) o ≡ Some x → p x ≡ true
find-step p y o x more true py f = let same : y ≡ x = cc in ap p (sym same) ∙ py
find-step p y o x more false py f = more f

pub length-class_form : (k : Class) → length (class_form k) ≡ length (class_name k) + 4
length-class_form k =
    let m = length-append (map is_plain (class_name k)) class_end in
    let n : length (map is_plain (class_name k)) ≡ length (class_name k) = length-map (class_name k) is_plain in
    omega (arith, m, n)

pub class_at-within : (k : Class) (n : ℕ) (cs : List Ch) → class_at (drop n cs) ≡ Some k → n ≤ length cs
    → n + (length (class_name k) + 3) < length cs
class_at-within k n cs e h =
    let opens = find-holds (λ j. begins (class_form j) (drop n cs)) classes k e in
    let long = begins-length (class_form k) (drop n cs) opens in
    let l = length-class_form k in
    let d = length-drop n cs in
    omega (arith, long, l, d)

pub item_of-class :
    (n : ℕ) (cs : List Ch) (first : Ch) (k : Class) → slice_get cs n ≡ Some first → class_at (drop n cs) ≡ Some k →
    item_of (drop n cs) ≡ Some (InClass k, length (class_name k) + 3)
item_of-class n cs first k e f =
    let d = drop-some n cs first e in
    ap item_of d ∙ ap (λ o. Some (class_or o (range_at first (drop (n + 1) cs)))) (ap class_at (sym d) ∙ f)

pub item_of-other :
    (n : ℕ) (cs : List Ch) (first : Ch) → slice_get cs n ≡ Some first → class_at (drop n cs) ≡ None →
    item_of (drop n cs) ≡ Some (range_at first (drop (n + 1) cs))
item_of-other n cs first e f =
    let d = drop-some n cs first e in
    ap item_of d ∙ ap (λ o. Some (class_or o (range_at first (drop (n + 1) cs)))) (ap class_at (sym d) ∙ f)

-- what was found of an item is of an item
pub held-some :
    (b : ℕ) (o : Option (Item × ℕ)) (h : Bool) (m : ℕ) → option_map (held_by b) o ≡ Some (h, m) →
    (i : Item) × (o ≡ Some (i, m)) × (item_holds b i ≡ h)
held-some b None h m e = cc
held-some b (Some r) h m e =
    let pair : held_by b r ≡ (h, m) = cc in
    let count : r.1 ≡ m = ap (λ (q : Bool × ℕ). q.1) pair in
    (r.0, ap (λ n. Some (r.0, n)) count, ap (λ (q : Bool × ℕ). q.0) pair)

pub held-none : (b : ℕ) (o : Option (Item × ℕ)) → option_map (held_by b) o ≡ None → o ≡ None
held-none b None e = refl
held-none b (Some r) e = cc

-- a search among what a map gives
pub find-map : {A B : Type 0} (p : B → Bool) (f : A → B) (xs : List A) → option_map f (find (λ x. p (f x)) xs) ≡ find p (map f xs)
find-map p f [] = refl
find-map p f (x ∷ xs) = go (p (f x)) (find-map p f xs)
  where
    go : (b : Bool) → option_map f (find (λ y. p (f y)) xs) ≡ find p (map f xs)
        → option_map f (cond b (Some x) (find (λ y. p (f y)) xs)) ≡ cond b (Some (f x)) (find p (map f xs))
    go true e = refl
    go false e = e

-- the private class that opens is the class there
pub class_at-class_at_start : (cs : List Ch) (o : Option shown.Class) → o ≡ class_at_start cs → class_at cs ≡ option_map class_of o
class_at-class_at_start cs o e = sym (ap (option_map class_of) e ∙ find-map (λ k. begins (class_form k) cs) class_of known_classes)

find-none : {A : Type 0} (p : A → Bool) (xs : List A) → ((x : A) → p x ≡ false) → find p xs ≡ None
find-none p [] none = refl
find-none p (x ∷ xs) none = ap (λ b. cond b (Some x) (find p xs)) (none x) ∙ find-none p xs none

no-class : (cs : List Ch) (k : Class) → has (is_plain 91) (slice_get cs 0) ≡ false → begins (class_form k) cs ≡ false
unfolding begins
no-class [] k e = refl
no-class (c ∷ cs) k e = ap (λ b. b && begins (is_byte 58 ∷ (map is_plain (class_name k) ++ class_end)) cs) e

-- where no unescaped `[` stands, no class does
pub class_at_start-none : (cs : List Ch) (n : ℕ) → has (is_plain 91) (slice_get cs n) ≡ false → class_at_start (drop n cs) ≡ None
class_at_start-none cs n e =
    find-none (λ k. begins (class_form (class_of k)) (drop n cs)) known_classes
    (λ k. no-class (drop n cs) (class_of k) (ap (has (is_plain 91)) (slice_get-drop n 0 cs ∙ ap (slice_get cs) (add-zero n)) ∙ e))

-- ---- All items

-- what is found of the items that are left, after some that took `taken` characters and held the byte or not
abbrev pub found : ℕ → Bool → ℕ → Option (List Item × ℕ) → Option (Bool × ℕ)
found byte holds taken o = option_map (λ r. (holds || list_any (item_holds byte) r.0, taken + r.1)) o

or_assoc : (a b c : Bool) → (a || (b || c)) ≡ ((a || b) || c)
or_assoc true b c = refl
or_assoc false b c = refl

pub found-more :
    (byte : ℕ) (holds : Bool) (taken : ℕ) (i : Item) (more : ℕ) (o : Option (List Item × ℕ)) →
    found byte holds taken (option_map (λ q. (i ∷ q.0, q.1 + (more + 1))) o) ≡ found byte (holds || item_holds byte i)
    (taken + (more + 1)) o
found-more byte holds taken i more None = refl
found-more byte holds taken i more (Some q) =
    ap (λ b. Some (b, taken + (q.1 + (more + 1)))) (or_assoc holds (item_holds byte i) (list_any (item_holds byte) q.0))
    ∙ (let e : taken + (q.1 + (more + 1)) ≡ taken + (more + 1) + q.1 = omega arith in
    ap (λ n. Some ((holds || item_holds byte i) || list_any (item_holds byte) q.0, n)) e)

plus-zero : {A : Type 0} (o : Option (A × ℕ)) → o ≡ option_map (λ r. (r.0, r.1 + 0)) o
plus-zero None = refl
plus-zero (Some r) = ap (λ n. Some (r.0, n)) (sym (add-zero r.1))

plus-suc : {A : Type 0} (n : ℕ) (o : Option (A × ℕ))
    → option_map {U = A × ℕ} (λ r. (r.0, r.1 + 1)) (option_map {U = A × ℕ} (λ r. (r.0, r.1 + n)) o) ≡ option_map (λ r. (r.0, r.1 + suc n)) o
plus-suc n None = refl
plus-suc n (Some r) = let e : r.1 + n + 1 ≡ r.1 + suc n = omega arith in ap (λ m. Some (r.0, m)) e

-- skipped characters only count
pub items_after-skip :
    (n : ℕ) (cs : List Ch) → items_after n false cs ≡ option_map (λ r. (r.0, r.1 + n)) (items_after 0 false (drop n cs))
unfolding items_after
items_after-skip zero cs = plus-zero (items_after 0 false cs)
items_after-skip (suc n) [] = refl
items_after-skip (suc n) (c ∷ cs) =
    ap (λ o. option_map (λ r. (r.0, r.1 + 1)) o) (items_after-skip n cs) ∙ plus-suc n (items_after 0 false (drop n cs))

pub items_after-empty : (is_first : Bool) → items_after 0 is_first [] ≡ None
unfolding items_after
items_after-empty is_first = refl

pub items_after-cons :
    (is_first : Bool) (c : Ch) (cs : List Ch) →
    items_after 0 is_first (c ∷ cs) ≡
    cond (not is_first && is_plain 93 c) (Some ([], 1)) (option_map (λ r. ((item_at c cs).0 ∷ r.0, r.1 + 1))
    (items_after (item_at c cs).1 false cs))
unfolding items_after
items_after-cons is_first c cs = refl

pub items_after-none : (is_first : Bool) (n : ℕ) (cs : List Ch) → item_of (drop n cs) ≡ None → items_after 0 is_first (drop n cs) ≡ None
items_after-none is_first n cs e = go (drop n cs) e
  where
    go : (xs : List Ch) → item_of xs ≡ None → items_after 0 is_first xs ≡ None
    go [] f = items_after-empty is_first
    go (x ∷ xs) f = cc

pub items_after-close :
    (is_first : Bool) (n : ℕ) (cs : List Ch) → (not is_first && has (is_plain 93) (slice_get cs n)) ≡ true →
    items_after 0 is_first (drop n cs) ≡ Some ([], 1)
items_after-close is_first n cs e = go (slice_get cs n) refl
  where
    go : (o : Option Ch) → slice_get cs n ≡ o → items_after 0 is_first (drop n cs) ≡ Some ([], 1)
    go None f = let no : has (is_plain 93) (slice_get cs n) ≡ false = ap (has (is_plain 93)) f in
        let yes : has (is_plain 93) (slice_get cs n) ≡ true = and_second (not is_first) (has (is_plain 93) (slice_get cs n)) e in cc
    go (Some c) f =
        ap (items_after 0 is_first) (drop-some n cs c f) ∙ items_after-cons is_first c (drop (n + 1) cs)
        ∙ ap (λ b. cond b (Some ([], 1)) (option_map (λ r. ((item_at c (drop (n + 1) cs)).0 ∷ r.0, r.1 + 1))
        (items_after (item_at c (drop (n + 1) cs)).1 false (drop (n + 1) cs))))
        (ap (λ o. not is_first && has (is_plain 93) o) (sym f) ∙ e)

drop-nil : {A : Type 0} (n : ℕ) → drop {A = A} n [] ≡ []
drop-nil zero = refl
drop-nil (suc n) = refl

pub drop-drop : {A : Type 0} (m n : ℕ) (xs : List A) → drop m (drop n xs) ≡ drop (n + m) xs
drop-drop m zero xs = ap (λ k. drop k xs) (sym (zero-add m))
drop-drop m (suc n) [] = drop-nil m ∙ sym (drop-nil (suc n + m))
drop-drop m (suc n) (x ∷ xs) =
    drop-drop m n xs ∙ (let e : suc (n + m) ≡ suc n + m = omega arith in ap (λ k. drop k (x ∷ xs)) e)

join-counts :
    (i : Item) (more : ℕ) (o : Option (List Item × ℕ)) →
    option_map {U = List Item × ℕ} (λ r. (i ∷ r.0, r.1 + 1))
    (option_map {U = List Item × ℕ} (λ r. (r.0, r.1 + more)) o) ≡ option_map (λ q. (i ∷ q.0, q.1 + (more + 1))) o
join-counts i more None = refl
join-counts i more (Some q) = let e : q.1 + more + 1 ≡ q.1 + (more + 1) = omega arith in ap (λ m. Some (i ∷ q.0, m)) e

pub items_after-next :
    (is_first : Bool) (n : ℕ) (cs : List Ch) (i : Item) (more : ℕ) → item_of (drop n cs) ≡ Some (i, more) →
    (not is_first && has (is_plain 93) (slice_get cs n)) ≡ false →
    items_after 0 is_first (drop n cs) ≡ option_map (λ q. (i ∷ q.0, q.1 + (more + 1))) (items_after 0 false (drop (n + 1 + more) cs))
items_after-next is_first n cs i more e f = go (slice_get cs n) refl
  where
    go :
        (o : Option Ch) → slice_get cs n ≡ o →
        items_after 0 is_first (drop n cs) ≡ option_map (λ q. (i ∷ q.0, q.1 + (more + 1))) (items_after 0 false (drop (n + 1 + more) cs))
    go None g = let no : item_of (drop n cs) ≡ None = ap item_of (drop-none n cs g) in cc
    go (Some c) g =
        let d : drop n cs ≡ c ∷ drop (n + 1) cs = drop-some n cs c g in
        let there : Some (item_at c (drop (n + 1) cs)) ≡ Some (i, more) = ap item_of (sym d) ∙ e in
        let same : item_at c (drop (n + 1) cs) ≡ (i, more) = cc in
        ap (items_after 0 is_first) d ∙ items_after-cons is_first c (drop (n + 1) cs)
        ∙ ap (λ b. cond b (Some ([], 1)) (option_map (λ r. ((item_at c (drop (n + 1) cs)).0 ∷ r.0, r.1 + 1))
        (items_after (item_at c (drop (n + 1) cs)).1 false (drop (n + 1) cs))))
        (ap (λ o. not is_first && has (is_plain 93) o) (sym g) ∙ f)
        ∙ ap (λ (p : Item × ℕ). option_map (λ r. (p.0 ∷ r.0, r.1 + 1)) (items_after p.1 false (drop (n + 1) cs))) same
        ∙ ap (λ o. option_map (λ r. (i ∷ r.0, r.1 + 1)) o) (items_after-skip more (drop (n + 1) cs))
        ∙ join-counts i more (items_after 0 false (drop more (drop (n + 1) cs)))
        ∙ ap (λ xs. option_map (λ q. (i ∷ q.0, q.1 + (more + 1))) (items_after 0 false xs)) (drop-drop more (n + 1) cs)

pub found-end : (byte : ℕ) (holds : Bool) (start at : ℕ) → start ≤ at
    → Some (holds, at + 1 - start) ≡ found byte holds (at - start) (Some ([], 1))
found-end byte false start at h = let e : at + 1 - start ≡ at - start + 1 = omega arith in ap (λ n. Some (false, n)) e
found-end byte true start at h = let e : at + 1 - start ≡ at - start + 1 = omega arith in ap (λ n. Some (true, n)) e
