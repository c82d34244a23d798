-- Lemmas on `fits`: what a star adds, and why going back to the last star alone loses no fit.
use Rattle.std.proofs.Common.{◌≡◌, ℕ, Bool, true, false, ◌&&◌, ◌||◌, List, [], ◌∷◌, ◌++◌, map, refl, ap, sym, ◌∙◌, append_assoc, subst}
use Rattle.std.specs.List.{list_any, list_all}
use Rattle.std.proofs.lemmas.Bool.{eqb-true, or_right, and_from}
use Rattle.sudo_base.proofs.Booleans.{and_first, and_second}
use Rattle.sudo_match.specs.declared.patterns.Slash.{Slash}
use Rattle.sudo_match.specs.Pattern.{ByteSet, Only, AnyByte, Bracket, Part, One, Star, is_free, set_holds, cuts, fits}

-- ---- Tests on lists

list_any-map : {A B : Type 0} (g : B → Bool) (f : A → B) (xs : List A) → list_any g (map f xs) ≡ list_any (λ x. g (f x)) xs
list_any-map g f [] = refl
list_any-map g f (x ∷ xs) = ap (λ b. g (f x) || b) (list_any-map g f xs)

list_any-none : {A : Type 0} (xs : List A) → list_any (λ (x : A). false) xs ≡ false
list_any-none [] = refl
list_any-none (x ∷ xs) = list_any-none xs

list_any-factor :
    {A : Type 0} (v : Bool) (p q : A → Bool) (xs : List A) →
    list_any (λ x. (v && p x) && q x) xs ≡ (v && list_any (λ x. p x && q x) xs)
list_any-factor true p q xs = refl
list_any-factor false p q xs = list_any-none xs

-- what follows from either of two tests
or-cases : (a b : Bool) {P : Type 0} → (a || b) ≡ true → (a ≡ true → P) → (b ≡ true → P) → P
or-cases true b e f g = f refl
or-cases false b e f g = g e

-- a test that gives what another gives already adds nothing
or-absorbs : (a b : Bool) → (b ≡ true → a ≡ true) → (a || b) ≡ a
or-absorbs true b f = refl
or-absorbs false true f = sym (f refl)
or-absorbs false false f = refl

-- ---- Stars

-- a star takes at least one byte, and then p fits the rest
abbrev pub later : Slash → List Part → List ℕ → Bool
later s p [] = false
later s p (b ∷ t) = is_free s b && fits (Star ∷ p) t s

-- a star takes nothing or at least one byte
pub fits-star : (s : Slash) (p : List Part) (t : List ℕ) → fits (Star ∷ p) t s ≡ (fits p t s || later s p t)
unfolding fits cuts
fits-star s p [] = refl
fits-star s p (b ∷ t) =
    ap (λ x. fits p (b ∷ t) s || x)
    (list_any-map (λ c. list_all (is_free s) c.0 && fits p c.1 s) (λ c. (b ∷ c.0, c.1)) (cuts t)
    ∙ list_any-factor (is_free s b) (λ c. list_all (is_free s) c.0) (λ c. fits p c.1 s) (cuts t))

pub fits-one : (s : Slash) (q : ByteSet) (p : List Part) (b : ℕ) (t : List ℕ) → fits (One q ∷ p) (b ∷ t) s ≡ (set_holds s q b && fits p t s)
unfolding fits
fits-one s q p b t = refl

pub fits-one-empty : (s : Slash) (q : ByteSet) (p : List Part) → fits (One q ∷ p) [] s ≡ false
unfolding fits
fits-one-empty s q p = refl

pub fits-empty-some : (s : Slash) (b : ℕ) (t : List ℕ) → fits [] (b ∷ t) s ≡ false
unfolding fits
fits-empty-some s b t = refl

pub fits-empty-empty : (s : Slash) → fits [] [] s ≡ true
unfolding fits
fits-empty-empty s = refl

-- a star takes one more byte
fits-star-more :
    (s : Slash) (p : List Part) (b : ℕ) (t : List ℕ) → is_free s b ≡ true → fits (Star ∷ p) t s ≡ true →
    fits (Star ∷ p) (b ∷ t) s ≡ true
fits-star-more s p b t free e =
    fits-star s p (b ∷ t) ∙ or_right (fits p (b ∷ t) s) _ (and_from (is_free s b) (fits (Star ∷ p) t s) free e)

-- and a run of bytes
fits-star-run :
    (s : Slash) (p : List Part) (c t : List ℕ) → list_all (is_free s) c ≡ true → fits (Star ∷ p) t s ≡ true →
    fits (Star ∷ p) (c ++ t) s ≡ true
fits-star-run s p [] t free e = e
fits-star-run s p (b ∷ c) t free e =
    fits-star-more s p b (c ++ t) (and_first (is_free s b) (list_all (is_free s) c) free)
    (fits-star-run s p c t (and_second (is_free s b) (list_all (is_free s) c) free) e)

-- ---- Going back to the last star alone

-- a set that holds a byte which a star may fit holds no byte that a star may not fit
set_holds-free :
    (s : Slash) (q : ByteSet) (a b : ℕ) → is_free s a ≡ true → set_holds s q a ≡ true → set_holds s q b ≡ true →
    is_free s b ≡ true
set_holds-free s (Only k) a b free ha hb =
    let same : b ≡ a = eqb-true b k hb ∙ sym (eqb-true a k ha) in
    rw same free
set_holds-free s AnyByte a b free ha hb = hb
set_holds-free s (Bracket false items) a b free ha hb = and_first (is_free s b) _ hb
set_holds-free s (Bracket true items) a b free ha hb = and_first (is_free s b) _ hb

-- the sets hold the bytes of the text, one after the other
unfoldable pub taken : Slash → List ByteSet → List ℕ → Bool
taken s [] [] = true
taken s [] (b ∷ t) = false
taken s (q ∷ qs) [] = false
taken s (q ∷ qs) (b ∷ t) = set_holds s q b && taken s qs t

list_all-snoc :
    {A : Type 0} (p : A → Bool) (c : List A) (b : A) → list_all p c ≡ true → p b ≡ true → list_all p (c ++ b ∷ []) ≡ true
list_all-snoc p [] b e f = and_from (p b) true f refl
list_all-snoc p (x ∷ c) b e f =
    and_from (p x) _ (and_first (p x) (list_all p c) e) (list_all-snoc p c b (and_second (p x) (list_all p c) e) f)

head-is : {A : Type 0} {a b : A} {x y : List A} → a ∷ x ≡ b ∷ y → a ≡ b
head-is e = cc

tail-is : {A : Type 0} {a b : A} {x y : List A} → a ∷ x ≡ b ∷ y → x ≡ y
tail-is e = cc

-- what the sets of an earlier star's tail hold at a later index, and what follows there, is a fit for the later star at
-- its own index: `c0 ∷ c` is what the earlier star takes more than where the sets first held `w`
takes_over :
    (s : Slash) (p : List Part) (qs : List ByteSet) (w t : List ℕ) (c0 : ℕ) (c y : List ℕ) →
    is_free s c0 ≡ true → list_all (is_free s) c ≡ true → taken s qs w ≡ true → c0 ∷ (c ++ y) ≡ w ++ t →
    fits (map One qs ++ (Star ∷ p)) y s ≡ true → fits (Star ∷ p) t s ≡ true
unfolding taken
takes_over s p [] [] t c0 c y free0 free held joined e =
    let P : List ℕ → Type 0 = λ x. fits (Star ∷ p) x s ≡ true in
    subst P joined (fits-star-more s p c0 (c ++ y) free0 (fits-star-run s p c y free e))
takes_over s p [] (b ∷ w) t c0 c y free0 free held joined e = cc
takes_over s p (q ∷ qs) [] t c0 c y free0 free held joined e = cc
takes_over s p (q ∷ qs) (a ∷ w) t c0 c [] free0 free held joined e = cc (fits-one-empty s q (map One qs ++ (Star ∷ p)))
takes_over s p (q ∷ qs) (a ∷ w) t c0 [] (b ∷ y) free0 free held joined e =
    let same : c0 ≡ a = head-is joined in
    let both : (set_holds s q b && fits (map One qs ++ (Star ∷ p)) y s) ≡ true = sym (fits-one s q (map One qs ++ (Star ∷ p)) b y) ∙ e in
    let free_a : is_free s a ≡ true = rw same at free0 in
    let free_b : is_free s b ≡ true = set_holds-free s q a b free_a (and_first (set_holds s q a) _ held)
    (and_first (set_holds s q b) _ both) in
    takes_over s p qs w t b [] y free_b refl (and_second (set_holds s q a) (taken s qs w) held) (tail-is joined)
    (and_second (set_holds s q b) _ both)
takes_over s p (q ∷ qs) (a ∷ w) t c0 (c1 ∷ c) (b ∷ y) free0 free held joined e =
    let same : c0 ≡ a = head-is joined in
    let both : (set_holds s q b && fits (map One qs ++ (Star ∷ p)) y s) ≡ true = sym (fits-one s q (map One qs ++ (Star ∷ p)) b y) ∙ e in
    let free_a : is_free s a ≡ true = rw same at free0 in
    let free_b : is_free s b ≡ true = set_holds-free s q a b free_a (and_first (set_holds s q a) _ held)
    (and_first (set_holds s q b) _ both) in
    takes_over s p qs w t c1 (c ++ b ∷ []) y (and_first (is_free s c1) (list_all (is_free s) c) free)
    (list_all-snoc (is_free s) c b (and_second (is_free s c1) (list_all (is_free s) c) free) free_b)
    (and_second (set_holds s q a) (taken s qs w) held)
    (ap (λ x. c1 ∷ x) (append_assoc c (b ∷ []) y) ∙ tail-is joined)
    (and_second (set_holds s q b) _ both)

-- the same, where the earlier star may take still more
later_over :
    (s : Slash) (p : List Part) (qs : List ByteSet) (w t : List ℕ) (c0 : ℕ) (c x : List ℕ) →
    is_free s c0 ≡ true → list_all (is_free s) c ≡ true → taken s qs w ≡ true → c0 ∷ (c ++ x) ≡ w ++ t →
    fits (Star ∷ (map One qs ++ (Star ∷ p))) x s ≡ true → fits (Star ∷ p) t s ≡ true
later_over s p qs w t c0 c [] free0 free held joined e =
    or-cases (fits (map One qs ++ (Star ∷ p)) [] s) false (sym (fits-star s (map One qs ++ (Star ∷ p)) []) ∙ e)
    (λ h. takes_over s p qs w t c0 c [] free0 free held joined h)
    (λ h. cc)
later_over s p qs w t c0 c (d ∷ x) free0 free held joined e =
    or-cases (fits (map One qs ++ (Star ∷ p)) (d ∷ x) s) (is_free s d && fits (Star ∷ (map One qs ++ (Star ∷ p))) x s)
    (sym (fits-star s (map One qs ++ (Star ∷ p)) (d ∷ x)) ∙ e)
    (λ h. takes_over s p qs w t c0 c (d ∷ x) free0 free held joined h)
    (λ h. later_over s p qs w t c0 (c ++ d ∷ []) x free0 (list_all-snoc (is_free s) c d free (and_first (is_free s d) _ h)) held
    (ap (λ z. c0 ∷ z) (append_assoc c (d ∷ []) x) ∙ joined) (and_second (is_free s d) _ h))

-- where the sets of an earlier star's tail have held the text up to a later star, whatever fits by giving the earlier
-- star more fits by giving it no more
later-star :
    (s : Slash) (p : List Part) (qs : List ByteSet) (w t x : List ℕ) → taken s qs w ≡ true → x ≡ w ++ t →
    later s (map One qs ++ (Star ∷ p)) x ≡ true → fits (Star ∷ p) t s ≡ true
later-star s p qs w t [] held joined e = cc
later-star s p qs w t (b ∷ x) held joined e =
    later_over s p qs w t b [] x (and_first (is_free s b) _ e) refl held joined (and_second (is_free s b) _ e)

-- ---- The matcher's two indices

-- from the parts `ps` and the text `ts` just after a star, sets alone have held bytes up to the parts `p` and the text `t`
pub record Reached (s : Slash) (ps : List Part) (ts : List ℕ) (p : List Part) (t : List ℕ) : Type 0 where
  pub sets : List ByteSet
  pub bytes : List ℕ
  pub parts_are : ps ≡ map One sets ++ p
  pub text_is : ts ≡ bytes ++ t
  pub held : taken s sets bytes ≡ true

pub reached-start : (s : Slash) (p : List Part) (t : List ℕ) → Reached s p t p t
unfolding taken
reached-start s p t = record { sets = []; bytes = []; parts_are = refl; text_is = refl; held = refl }

map-snoc : (qs : List ByteSet) (q : ByteSet) (p : List Part) → map One qs ++ (One q ∷ p) ≡ map One (qs ++ q ∷ []) ++ p
map-snoc [] q p = refl
map-snoc (x ∷ qs) q p = ap (λ z. One x ∷ z) (map-snoc qs q p)

taken-snoc :
    (s : Slash) (qs : List ByteSet) (w : List ℕ) (q : ByteSet) (b : ℕ) → taken s qs w ≡ true → set_holds s q b ≡ true →
    taken s (qs ++ q ∷ []) (w ++ b ∷ []) ≡ true
unfolding taken
taken-snoc s [] [] q b held e = and_from (set_holds s q b) true e refl
taken-snoc s [] (a ∷ w) q b held e = cc
taken-snoc s (x ∷ qs) [] q b held e = cc
taken-snoc s (x ∷ qs) (a ∷ w) q b held e =
    and_from (set_holds s x a) _ (and_first (set_holds s x a) _ held) (taken-snoc s qs w q b (and_second (set_holds s x a) _ held) e)

-- one set more
pub reached-one :
    (s : Slash) (ps : List Part) (ts : List ℕ) (q : ByteSet) (p : List Part) (b : ℕ) (t : List ℕ) →
    Reached s ps ts (One q ∷ p) (b ∷ t) → set_holds s q b ≡ true → Reached s ps ts p t
reached-one s ps ts q p b t r e = record {
  sets = r.sets ++ q ∷ [];
  bytes = r.bytes ++ b ∷ [];
  parts_are = r.parts_are ∙ map-snoc r.sets q p;
  text_is = r.text_is ∙ sym (append_assoc r.bytes (b ∷ []) t);
  held = taken-snoc s r.sets r.bytes q b r.held e;
}

-- at a star, the star before it can be left behind
pub fits-star-again :
    (s : Slash) (ps : List Part) (ts : List ℕ) (p : List Part) (t : List ℕ) → Reached s ps ts (Star ∷ p) t →
    (fits (Star ∷ p) t s || later s ps ts) ≡ (fits p t s || later s p t)
fits-star-again s ps ts p t r =
    or-absorbs (fits (Star ∷ p) t s) (later s ps ts)
    (λ h. later-star s p r.sets r.bytes t ts r.held r.text_is (rw r.parts_are at h))
    ∙ fits-star s p t

-- going back: the star takes one byte more
pub later-back :
    (s : Slash) (p : List Part) (b : ℕ) (t : List ℕ) → is_free s b ≡ true → later s p (b ∷ t) ≡ (fits p t s || later s p t)
later-back s p b t free = ap (λ x. x && fits (Star ∷ p) t s) free ∙ fits-star s p t

pub later-not_free : (s : Slash) (p : List Part) (b : ℕ) (t : List ℕ) → is_free s b ≡ false → later s p (b ∷ t) ≡ false
later-not_free s p b t free = ap (λ x. x && fits (Star ∷ p) t s) free
