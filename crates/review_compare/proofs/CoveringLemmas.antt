-- Patterns that cover others, and patterns that fit no text together.
use Rattle.std.proofs.Common.{◌≡◌, ℕ, Bool, true, false, not, cond, ◌&&◌, ◌||◌, List, [], ◌∷◌, Option, Some, None, refl, sym, ◌∙◌, ap, inl}
use Rattle.std.proofs.Common.{inr, ◌⊎◌}
use Rattle.std.specs.Prelude.{get_or, option_map, ◌==◌}
use Rattle.std.specs.List.{list_any}
use Rattle.std.proofs.lemmas.Bool.{eqb-true, and_parts, and_from, or_cases, or_left, or_right, not-true, and_left, and_right}
use Rattle.sudo_text.specs.declared.token.Ch.{Ch}
use Rattle.sudo_grammar.specs.declared.kind.Atom.TheVariants as atom
use Rattle.sudo_match.specs.declared.patterns.Slash.{Slash}
use Rattle.sudo_match.specs.declared.patterns.Slash.TheVariants.{Any, Not}
use Rattle.sudo_match.specs.Class.{Class, Alnum, Alpha, Blank, Cntrl, Digit, Graph, Lower, Print, Punct, Space, Upper, Xdigit}
use Rattle.sudo_match.specs.Pattern.{Item, Range, Single, InClass, item_holds, ByteSet, Only, AnyByte, Bracket, Part, One, Star, parts}
use Rattle.sudo_match.specs.Pattern.{path_chars, is_free, set_holds, fits}
use Rattle.sudo_match.specs.Matching.{is_empty, arguments_fit, arguments_slash, command_fits}
use Rattle.sudo_match.proofs.FitsLemmas.{later, fits-star, fits-one}
use Rattle.review_compare.specs.Covering.{class_number, same_item, same_items, set_covers, set_is_free, star_covers, parts_cover}
use Rattle.review_compare.specs.Covering.{sets_apart, parts_apart, text_of, misses, parts_disjoint, no_arguments, same_slash}
use Rattle.review_compare.specs.Covering.{arguments_cover, arguments_disjoint, tests_by, CoversIsSound, DisjointIsSound}
use Rattle.review_compare.specs.Covering.{AgreementOnCommands}
use Rattle.review_compare.proofs.AgreementLemmas.{agreement}

-- ---- Sets

numbered : List Class
numbered = Alnum ∷ Alpha ∷ Blank ∷ Cntrl ∷ Digit ∷ Graph ∷ Lower ∷ Print ∷ Punct ∷ Space ∷ Upper ∷ Xdigit ∷ []

class_from : ℕ → Class
class_from n = get_or numbered n Alnum

class_back : (k : Class) → class_from (class_number k) ≡ k
unfolding class_from numbered
class_back Alnum = refl
class_back Alpha = refl
class_back Blank = refl
class_back Cntrl = refl
class_back Digit = refl
class_back Graph = refl
class_back Lower = refl
class_back Print = refl
class_back Punct = refl
class_back Space = refl
class_back Upper = refl
class_back Xdigit = refl

class_same : (k l : Class) → (class_number k == class_number l) ≡ true → k ≡ l
class_same k l e = sym (class_back k) ∙ ap class_from (eqb-true (class_number k) (class_number l) e) ∙ class_back l

item_same : (i j : Item) (b : ℕ) → same_item i j ≡ true → item_holds b i ≡ item_holds b j
item_same (Single a) (Single c) b e = ap (λ n. b == n) (eqb-true a c e)
item_same (Range a c) (Range d f) b e =
    let both = and_parts (a == d) (c == f) e in
    ap (λ n. item_holds b (Range n c)) (eqb-true a d both.0) ∙ ap (λ n. item_holds b (Range d n)) (eqb-true c f both.1)
item_same (InClass k) (InClass l) b e = ap (λ c. item_holds b (InClass c)) (class_same k l e)
item_same (InClass k) (Single a) b e = cc
item_same (InClass k) (Range c d) b e = cc
item_same (Single a) (InClass k) b e = cc
item_same (Single a) (Range c d) b e = cc
item_same (Range a c) (InClass k) b e = cc
item_same (Range a c) (Single d) b e = cc

items_same : (is js : List Item) (b : ℕ) → same_items is js ≡ true → list_any (item_holds b) is ≡ list_any (item_holds b) js
items_same [] [] b e = refl
items_same [] (j ∷ js) b e = cc
items_same (i ∷ is) [] b e = cc
items_same (i ∷ is) (j ∷ js) b e =
    let both = and_parts (same_item i j) (same_items is js) e in
    ap (λ v. v || list_any (item_holds b) is) (item_same i j b both.0) ∙ ap (λ v. item_holds b j || v) (items_same is js b both.1)

pub set_sound : (s : Slash) (x y : ByteSet) (b : ℕ) → set_covers s x y ≡ true → set_holds s y b ≡ true → set_holds s x b ≡ true
set_sound s x (Only c) b e h = ap (set_holds s x) (eqb-true b c h) ∙ e
set_sound s AnyByte AnyByte b e h = h
set_sound s AnyByte (Bracket true js) b e h = (and_parts (is_free s b) (not (list_any (item_holds b) js)) h).0
set_sound s AnyByte (Bracket false js) b e h = (and_parts (is_free s b) (list_any (item_holds b) js) h).0
set_sound s (Bracket true is) (Bracket true js) b e h = ap (λ v. is_free s b && not v) (items_same is js b e) ∙ h
set_sound s (Bracket false is) (Bracket false js) b e h = ap (λ v. is_free s b && v) (items_same is js b e) ∙ h
set_sound s (Bracket true is) (Bracket false js) b e h = cc
set_sound s (Bracket false is) (Bracket true js) b e h = cc
set_sound s (Bracket true is) AnyByte b e h = cc
set_sound s (Bracket false is) AnyByte b e h = cc
set_sound s (Only a) AnyByte b e h = cc
set_sound s (Only a) (Bracket d js) b e h = cc

free_sound : (s : Slash) (y : ByteSet) (b : ℕ) → set_is_free s y ≡ true → set_holds s y b ≡ true → is_free s b ≡ true
free_sound s (Only a) b e h = ap (is_free s) (eqb-true b a h) ∙ e
free_sound s AnyByte b e h = h
free_sound s (Bracket true js) b e h = (and_parts (is_free s b) (not (list_any (item_holds b) js)) h).0
free_sound s (Bracket false js) b e h = (and_parts (is_free s b) (list_any (item_holds b) js) h).0

-- ---- Parts

one_parts : (s : Slash) (y : ByteSet) (q : List Part) (b : ℕ) (t : List ℕ) → fits (One y ∷ q) (b ∷ t) s ≡ true →
    (set_holds s y b ≡ true) × (fits q t s ≡ true)
one_parts s y q b t h = and_parts (set_holds s y b) (fits q t s) (sym (fits-one s y q b t) ∙ h)

star_empty : (s : Slash) (p : List Part) (t : List ℕ) → fits p t s ≡ true → fits (Star ∷ p) t s ≡ true
star_empty s p t h = fits-star s p t ∙ or_left (fits p t s) (later s p t) h

star_more : (s : Slash) (p : List Part) (b : ℕ) (t : List ℕ) → is_free s b ≡ true → fits (Star ∷ p) t s ≡ true →
    fits (Star ∷ p) (b ∷ t) s ≡ true
star_more s p b t free h =
    fits-star s p (b ∷ t) ∙ or_right (fits p (b ∷ t) s) (later s p (b ∷ t)) (and_from (is_free s b) (fits (Star ∷ p) t s) free h)

star_run :
    (s : Slash) (p q : List Part) → ((t : List ℕ) → fits q t s ≡ true → fits (Star ∷ p) t s ≡ true) → (t : List ℕ) →
    fits (Star ∷ q) t s ≡ true → fits (Star ∷ p) t s ≡ true
star_run s p q each [] h = go (or_cases (fits q [] s) (later s q []) (sym (fits-star s q []) ∙ h))
  where
    go : (fits q [] s ≡ true) ⊎ (false ≡ true) → fits (Star ∷ p) [] s ≡ true
    go (inl now) = each [] now
    go (inr then) = cc
star_run s p q each (b ∷ t) h = go (or_cases (fits q (b ∷ t) s) (later s q (b ∷ t)) (sym (fits-star s q (b ∷ t))
    ∙ h)) (star_run s p q each t)
  where
    go : (fits q (b ∷ t) s ≡ true) ⊎ (later s q (b ∷ t) ≡ true) → (fits (Star ∷ q) t s ≡ true → fits (Star ∷ p) t s ≡ true) →
        fits (Star ∷ p) (b ∷ t) s ≡ true
    go (inl now) rest = each (b ∷ t) now
    go (inr then) rest =
        let both = and_parts (is_free s b) (fits (Star ∷ q) t s) then in
        star_more s p b t both.0 (rest both.1)

star_sound :
    (s : Slash) (p : List Part) (rest : List Part → Bool) → ((q : List Part) (t : List ℕ) → rest q ≡ true → fits q t s ≡ true →
    fits p t s ≡ true) →
    (q : List Part) (t : List ℕ) → star_covers s rest q ≡ true → fits q t s ≡ true → fits (Star ∷ p) t s ≡ true
unfolding fits
star_sound s p rest each [] t e h = star_empty s p t (each [] t e h)
star_sound s p rest each (Star ∷ q) t e h = star_run s p q (λ u. star_sound s p rest each q u e) t h
star_sound s p rest each (One y ∷ q) t e h =
    go (or_cases (rest (One y ∷ q)) (set_is_free s y && star_covers s rest q) e) t h (λ more u. star_sound s p rest each q u more)
  where
    go :
        (rest (One y ∷ q) ≡ true) ⊎ ((set_is_free s y && star_covers s rest q) ≡ true) → (t : List ℕ) → fits (One y ∷ q) t s ≡ true →
        (star_covers s rest q ≡ true → (u : List ℕ) → fits q u s ≡ true → fits (Star ∷ p) u s ≡ true) → fits (Star ∷ p) t s ≡ true
    go (inl now) t h onward = star_empty s p t (each (One y ∷ q) t now h)
    go (inr then) [] h onward = cc
    go (inr then) (b ∷ t) h onward =
        let both = and_parts (set_is_free s y) (star_covers s rest q) then in
        let front = one_parts s y q b t h in
        star_more s p b t (free_sound s y b both.0 front.0) (onward both.1 t front.1)

pub parts_sound : (s : Slash) (p q : List Part) (t : List ℕ) → parts_cover s p q ≡ true → fits q t s ≡ true → fits p t s ≡ true
unfolding fits
parts_sound s [] [] t e h = h
parts_sound s [] (y ∷ q) t e h = cc
parts_sound s (Star ∷ p) q t e h = star_sound s p (parts_cover s p) (parts_sound s p) q t e h
parts_sound s (One x ∷ p) [] t e h = cc
parts_sound s (One x ∷ p) (Star ∷ q) t e h = cc
parts_sound s (One x ∷ p) (One y ∷ q) [] e h = cc
parts_sound s (One x ∷ p) (One y ∷ q) (b ∷ t) e h =
    let both = and_parts (set_covers s x y) (parts_cover s p q) e in
    let front = one_parts s y q b t h in
    fits-one s x p b t ∙ and_from (set_holds s x b) (fits p t s) (set_sound s x y b both.0 front.0) (parts_sound s p q t both.1 front.1)

sets_sound : (s r : Slash) (x y : ByteSet) (b : ℕ) → sets_apart s r x y ≡ true → set_holds s x b ≡ true → set_holds r y b ≡ false
sets_sound s r (Only a) y b e h = ap (set_holds r y) (eqb-true b a h) ∙ not-true (set_holds r y a) e
sets_sound s r AnyByte (Only c) b e h = one_apart s AnyByte b c e h
  where
    one_apart : (s : Slash) (x : ByteSet) (b c : ℕ) → not (set_holds s x c) ≡ true → set_holds s x b ≡ true → (b == c) ≡ false
    one_apart s x b c e h = go (b == c) refl
      where
        go : (d : Bool) → (b == c) ≡ d → d ≡ false
        go false f = refl
        go true f =
            let no : set_holds s x b ≡ false = ap (set_holds s x) (eqb-true b c f) ∙ not-true (set_holds s x c) e in
            let bad : true ≡ false = sym h ∙ no in cc
sets_sound s r (Bracket n items) (Only c) b e h = one_apart s (Bracket n items) b c e h
  where
    one_apart : (s : Slash) (x : ByteSet) (b c : ℕ) → not (set_holds s x c) ≡ true → set_holds s x b ≡ true → (b == c) ≡ false
    one_apart s x b c e h = go (b == c) refl
      where
        go : (d : Bool) → (b == c) ≡ d → d ≡ false
        go false f = refl
        go true f =
            let no : set_holds s x b ≡ false = ap (set_holds s x) (eqb-true b c f) ∙ not-true (set_holds s x c) e in
            let bad : true ≡ false = sym h ∙ no in cc
sets_sound s r AnyByte AnyByte b e h = cc
sets_sound s r AnyByte (Bracket c items) b e h = cc
sets_sound s r (Bracket c items) AnyByte b e h = cc
sets_sound s r (Bracket c items) (Bracket d more) b e h = cc

apart_sound : (s r : Slash) (p q : List Part) (t : List ℕ) → parts_apart s r p q ≡ true → fits p t s ≡ true → fits q t r ≡ false
unfolding fits
apart_sound s r [] q [] e h = not-true (fits q [] r) e
apart_sound s r [] q (b ∷ t) e h = cc
apart_sound s r (Star ∷ p) q t e h = cc
apart_sound s r (One x ∷ p) [] [] e h = cc
apart_sound s r (One x ∷ p) [] (b ∷ t) e h = refl
apart_sound s r (One x ∷ p) (Star ∷ q) t e h = cc
apart_sound s r (One x ∷ p) (One y ∷ q) [] e h = refl
apart_sound s r (One x ∷ p) (One y ∷ q) (b ∷ t) e h =
    let front = one_parts s x p b t h in
    fits-one r y q b t ∙ go (or_cases (sets_apart s r x y) (parts_apart s r p q) e) front.0 (λ more. apart_sound s r p q t more front.1)
  where
    go :
        (sets_apart s r x y ≡ true) ⊎ (parts_apart s r p q ≡ true) → set_holds s x b ≡ true →
        (parts_apart s r p q ≡ true → fits q t r ≡ false) → (set_holds r y b && fits q t r) ≡ false
    go (inl now) held onward = and_left (set_holds r y b) (fits q t r) (sets_sound s r x y b now held)
    go (inr then) held onward = and_right (set_holds r y b) (fits q t r) (onward then)

pub text_is : (s : Slash) (p : List Part) (u t : List ℕ) → text_of p ≡ Some u → fits p t s ≡ true → t ≡ u
unfolding fits
text_is s [] u [] e h = let same : [] ≡ u = cc in same
text_is s [] u (b ∷ t) e h = cc
text_is s (Star ∷ p) u t e h = cc
text_is s (One AnyByte ∷ p) u t e h = cc
text_is s (One (Bracket c items) ∷ p) u t e h = cc
text_is s (One (Only a) ∷ p) u [] e h = cc
text_is s (One (Only a) ∷ p) u (b ∷ t) e h =
    let front = one_parts s (Only a) p b t h in
    go (text_of p) refl e (λ v f. text_is s p v t f front.1) (eqb-true b a front.0)
  where
    go : (o : Option (List ℕ)) → text_of p ≡ o → option_map (λ t. a ∷ t) o ≡ Some u → ((v : List ℕ) → text_of p ≡ Some v → t ≡ v) → b ≡ a →
        b ∷ t ≡ u
    go None f e rest same = cc
    go (Some v) f e rest same =
        let whole : a ∷ v ≡ u = cc in
        ap (λ n. n ∷ t) same ∙ ap (λ l. a ∷ l) (rest v f) ∙ whole

misses_sound : (s r : Slash) (p q : List Part) (t : List ℕ) → misses r q (text_of p) ≡ true → fits p t s ≡ true → fits q t r ≡ false
misses_sound s r p q t e h = go (text_of p) refl e
  where
    go : (o : Option (List ℕ)) → text_of p ≡ o → misses r q o ≡ true → fits q t r ≡ false
    go None f e = cc
    go (Some u) f e = ap (λ l. fits q l r) (text_is s p u t f h) ∙ not-true (fits q u r) e

-- what does not pass where the first passes does not pass
turned : (b : Bool) → (b ≡ true → ⊥) → b ≡ false
turned true h = absurd (h refl)
turned false h = refl

disjoint_sound : (s r : Slash) (p q : List Part) (t : List ℕ) → parts_disjoint s r p q ≡ true → fits p t s ≡ true → fits q t r ≡ false
disjoint_sound s r p q t e h = go (or_cases (misses r q (text_of p) || misses s p (text_of q)) (parts_apart s r p q) e)
  where
    one : (misses r q (text_of p) ≡ true) ⊎ (misses s p (text_of q) ≡ true) → fits q t r ≡ false
    one (inl a) = misses_sound s r p q t a h
    one (inr b) = turned (fits q t r) (λ yes. let no : fits p t s ≡ false = misses_sound r s q p t b yes in let bad : true ≡ false = sym h
        ∙ no in cc)

    go : ((misses r q (text_of p) || misses s p (text_of q)) ≡ true) ⊎ (parts_apart s r p q ≡ true) → fits q t r ≡ false
    go (inl a) = one (or_cases (misses r q (text_of p)) (misses s p (text_of q)) a)
    go (inr b) = apart_sound s r p q t b h

-- ---- Arguments

empty_is : (x : List ℕ) → is_empty x ≡ true → x ≡ []
empty_is [] e = refl
empty_is (b ∷ x) e = cc

pub slash_same : (s r : Slash) → same_slash s r ≡ true → s ≡ r
slash_same Any Any e = refl
slash_same Not Not e = refl
slash_same Any Not e = cc
slash_same Not Any e = cc

pub arguments_sound :
    (s r : Slash) (a b : Option (List Ch)) (x : List ℕ) → arguments_cover s r a b ≡ true → arguments_fit r b x ≡ true →
    arguments_fit s a x ≡ true
arguments_sound s r None b x e h = refl
arguments_sound s r (Some cs) None x e h = cc
arguments_sound s r (Some cs) (Some ds) x e h = go (no_arguments ds) (no_arguments cs) refl e h
  where
    go :
        (n m : Bool) → no_arguments cs ≡ m →
        cond n (arguments_fit s (Some cs) []) (cond m false (same_slash s r && parts_cover s (parts cs) (parts ds))) ≡ true →
        cond n (is_empty x) (fits (parts ds) x r) ≡ true → arguments_fit s (Some cs) x ≡ true
    go true m is e h = ap (λ l. arguments_fit s (Some cs) l) (empty_is x h) ∙ e
    go false true is e h = cc
    go false false is e h =
        let both = and_parts (same_slash s r) (parts_cover s (parts cs) (parts ds)) e in
        ap (λ m. cond m (is_empty x) (fits (parts cs) x s)) is
        ∙ parts_sound s (parts cs) (parts ds) x both.1 (ap (fits (parts ds) x) (slash_same s r both.0) ∙ h)

pub arguments_apart :
    (s r : Slash) (a b : Option (List Ch)) (x : List ℕ) → arguments_disjoint s r a b ≡ true → arguments_fit s a x ≡ true →
    arguments_fit r b x ≡ false
arguments_apart s r None b x e h = cc
arguments_apart s r (Some cs) None x e h = cc
arguments_apart s r (Some cs) (Some ds) x e h = go (no_arguments ds) (no_arguments cs) refl refl e
  where
    clash : (l : List ℕ) → arguments_fit s (Some cs) x ≡ true → x ≡ l → not (arguments_fit s (Some cs) l) ≡ true → ⊥
    clash l h same e =
        let no : arguments_fit s (Some cs) x ≡ false = ap (λ l. arguments_fit s (Some cs) l) same
        ∙ not-true (arguments_fit s (Some cs) l) e in
        let bad : true ≡ false = sym h ∙ no in cc

    go :
        (n m : Bool) → no_arguments ds ≡ n → no_arguments cs ≡ m →
        cond n (not (arguments_fit s (Some cs) [])) (cond m (not (arguments_fit r (Some ds) [])) (parts_disjoint s r (parts cs)
        (parts ds))) ≡ true →
        arguments_fit r (Some ds) x ≡ false
    go true m f g e =
        turned (arguments_fit r (Some ds) x)
        (λ yes. clash [] h (empty_is x (sym (ap (λ v. cond v (is_empty x) (fits (parts ds) x r)) f) ∙ yes)) e)
    go false true f g e =
        ap (λ l. arguments_fit r (Some ds) l) (empty_is x (sym (ap (λ v. cond v (is_empty x) (fits (parts cs) x s)) g) ∙ h))
        ∙ not-true (arguments_fit r (Some ds) []) e
    go false false f g e =
        ap (λ v. cond v (is_empty x) (fits (parts ds) x r)) f
        ∙ disjoint_sound s r (parts cs) (parts ds) x e (sym (ap (λ v. cond v (is_empty x) (fits (parts cs) x s)) g) ∙ h)

-- ---- Commands

pub covers_sound : CoversIsSound
unfolding command_fits
covers_sound atom.All a c x e h = refl
covers_sound (atom.Command path args) (atom.Command other more) c x e h =
    let both = and_parts (parts_cover Not (parts (path_chars path)) (parts (path_chars other))) (arguments_cover (arguments_slash path)
    (arguments_slash other) args more) e in
    let held = and_parts (fits (parts (path_chars other)) c Not) (arguments_fit (arguments_slash other) more x) h in
    and_from (fits (parts (path_chars path)) c Not) (arguments_fit (arguments_slash path) args x)
    (parts_sound Not (parts (path_chars path)) (parts (path_chars other)) c both.0 held.0)
    (arguments_sound (arguments_slash path) (arguments_slash other) args more x both.1 held.1)
covers_sound _ _ c x e h = cc

pub disjoint_is_sound : DisjointIsSound
unfolding command_fits
disjoint_is_sound (atom.Command path args) (atom.Command other more) c x e h =
    let held = and_parts (fits (parts (path_chars path)) c Not) (arguments_fit (arguments_slash path) args x) h in
    go held.0 held.1 (or_cases (parts_disjoint Not Not (parts (path_chars path)) (parts (path_chars other))) (arguments_disjoint
    (arguments_slash path) (arguments_slash other) args more) e)
  where
    go :
        fits (parts (path_chars path)) c Not ≡ true → arguments_fit (arguments_slash path) args x ≡ true →
        (parts_disjoint Not Not (parts (path_chars path)) (parts (path_chars other)) ≡ true) ⊎ (arguments_disjoint (arguments_slash path)
        (arguments_slash other) args more ≡ true) →
        (fits (parts (path_chars other)) c Not && arguments_fit (arguments_slash other) more x) ≡ false
    go h i (inl a) =
        and_left (fits (parts (path_chars other)) c Not) (arguments_fit (arguments_slash other) more x)
        (disjoint_sound Not Not (parts (path_chars path)) (parts (path_chars other)) c a h)
    go h i (inr b) =
        and_right (fits (parts (path_chars other)) c Not) (arguments_fit (arguments_slash other) more x)
        (arguments_apart (arguments_slash path) (arguments_slash other) args more x b i)
disjoint_is_sound _ _ c x e h = cc

pub commands_agree : (O : Type 0) → AgreementOnCommands O
commands_agree O = record {
  holds = λ same exact gs hs e c x.
      (agreement _ O).holds (tests_by same) (λ a. command_fits a c x) gs hs
      (record {
        covers = λ k a cover h. covers_sound k a c x cover h;
        disjoint = λ a b apart h. disjoint_is_sound a b c x apart h;
        same = exact;
      }) e;
}
