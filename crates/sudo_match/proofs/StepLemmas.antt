-- Lemmas on the steps of matching, and on the invariant of its loop.
use Rattle.std.proofs.Common.{◌≡◌, ℕ, ◌+◌, ◌-◌, ◌*◌, ◌<◌, ◌≤◌, Bool, true, false, ◌||◌, List, [], ◌∷◌, length, drop}
use Rattle.std.proofs.Common.{refl, ap, sym, ◌∙◌, subst, Some, None, Option, arith, add-zero}
use Rattle.std.specs.Prelude.{slice_get, option_map, ◌==◌}
use Rattle.std.proofs.lemmas.Bool.{eq-eqb, ne_eqb, and_left, or_parts}
use Rattle.std.proofs.lemmas.Option.{slice_get_within, slice_get_past, slice_get-get_or}
use Rattle.std.proofs.Math.Nat.{mul-le-mul_right}
use Rattle.sudo_base.proofs.Options.{some_injective}
use Rattle.sudo_text.specs.declared.token.Ch.{Ch}
use Rattle.sudo_match.specs.declared.patterns.Slash.{Slash}
use Rattle.sudo_match.specs.Pattern.{is_plain, has, ByteSet, Only, AnyByte, Part, One, Star, bracket_after}
use Rattle.sudo_match.specs.Pattern.{bracket_or, part_at, parts, set_holds, fits}
use Rattle.sudo_match.specs.Body.Pattern.{part_of, part_holds}
use Rattle.sudo_match.specs.Body.Reading.{is_free_byte}
use Rattle.sudo_match.specs.Body.Step.{TakesPart, IsStarred}
use Rattle.sudo_match.proofs.CharsLemmas.{drop-some, drop-none, and-then}
use Rattle.sudo_match.proofs.PartLemmas.{part_answer, part_of-at, part-star, part-any, part-bracket, part-byte, parts-next, parts-none}
use Rattle.sudo_match.proofs.FitsLemmas.{later, fits-star, fits-one, fits-one-empty, fits-empty-some}
use Rattle.sudo_match.proofs.FitsLemmas.{fits-empty-empty, Reached, reached-start, reached-one, fits-star-again}
use Rattle.sudo_match.proofs.FitsLemmas.{later-back, later-not_free}

-- ---- One step

pair-is : {A : Type 0} (r : A × ℕ) (p : A) (m : ℕ) → r.0 ≡ p → r.1 ≡ m → r ≡ (p, m)
pair-is r p m e f = ap (λ x. (x, r.1)) e ∙ ap (λ y. (p, y)) f

bracket_or-one : (o : Option (ByteSet × ℕ)) (c : ℕ) → (set : ByteSet) × ((bracket_or o c).0 ≡ One set)
bracket_or-one None c = (Only c, refl)
bracket_or-one (Some r) c = (r.0, refl)

-- a part that does not begin with an unescaped `*` is no star
part-one : (c : Ch) (cs : List Ch) → is_plain 42 c ≡ false → (set : ByteSet) × ((part_at c cs).0 ≡ One set)
part-one c cs e = go (is_plain 63 c) (is_plain 91 c) refl refl
  where
    go : (y z : Bool) → is_plain 63 c ≡ y → is_plain 91 c ≡ z → (set : ByteSet) × ((part_at c cs).0 ≡ One set)
    go true z f g = (AnyByte, ap (λ (r : Part × ℕ). r.0) (part-any c cs e f))
    go false true f g =
        let r = bracket_or-one (bracket_after cs) c.byte in
        (r.0, ap (λ (r : Part × ℕ). r.0) (part-bracket c cs e f g) ∙ r.1)
    go false false f g = (Only c.byte, ap (λ (r : Part × ℕ). r.0) (part-byte c cs e f g))

pub starred : (n : ℕ) (cs : List Ch) → has (is_plain 42) (slice_get cs n) ≡ true → IsStarred cs n
starred n cs e = go (slice_get cs n) refl
  where
    go : (o : Option Ch) → slice_get cs n ≡ o → IsStarred cs n
    go None f = let no : has (is_plain 42) (slice_get cs n) ≡ false = ap (has (is_plain 42)) f in
        absurd (let h : true ≡ false = sym e ∙ no in cc)
    go (Some c) f = record {
      parts_are =
          parts-next n cs Star 0 (part_of-at n cs c f ∙ ap Some (part-star c (drop (n + 1) cs) (ap (has (is_plain 42)) (sym f) ∙ e)))
          ∙ ap (λ k. Star ∷ parts (drop k cs)) (add-zero (n + 1));
      within = slice_get_within cs n c f;
    }

-- an offset of the pattern where no star stands, by its answer for a byte
record OneAt (s : Slash) (b : ℕ) (cs : List Ch) (n : ℕ) (answer : Bool) (more : ℕ) : Type 0 where
  set : ByteSet
  parts_are : parts (drop n cs) ≡ One set ∷ parts (drop (n + 1 + more) cs)
  answered : set_holds s set b ≡ answer

one-at :
    (s : Slash) (b : ℕ) (cs : List Ch) (n : ℕ) (answer : Bool) (more : ℕ) → has (is_plain 42) (slice_get cs n) ≡ false →
    option_map (part_answer s b) (part_of (drop n cs)) ≡ Some (answer, more) → OneAt s b cs n answer more
one-at s b cs n answer more e f = go (slice_get cs n) refl
  where
    go : (o : Option Ch) → slice_get cs n ≡ o → OneAt s b cs n answer more
    go None g =
        let no : option_map (part_answer s b) (part_of (drop n cs)) ≡ None =
        ap (λ xs. option_map (part_answer s b) (part_of xs)) (drop-none n cs g) in
        absurd (let h : None ≡ Some (answer, more) = sym no ∙ f in cc)
    go (Some c) g =
        let one = part-one c (drop (n + 1) cs) (ap (has (is_plain 42)) (sym g) ∙ e) in
        let there : Some (part_answer s b (part_at c (drop (n + 1) cs))) ≡ Some (answer, more) =
        ap (option_map (part_answer s b)) (sym (part_of-at n cs c g)) ∙ f in
        let same = some_injective (part_answer s b (part_at c (drop (n + 1) cs))) (answer, more) there in
        let held : part_holds s (part_at c (drop (n + 1) cs)).0 b ≡ answer = ap (λ (r : Bool × ℕ). r.0) same in
        let count : (part_at c (drop (n + 1) cs)).1 ≡ more = ap (λ (r : Bool × ℕ). r.1) same in
        let part : Some (part_at c (drop (n + 1) cs)) ≡ Some (One one.0, more) =
        ap Some (pair-is (part_at c (drop (n + 1) cs)) (One one.0) more one.1 count) in
        record {
          set = one.0;
          parts_are = parts-next n cs (One one.0) more (part_of-at n cs c g ∙ part);
          answered = ap (λ p. part_holds s p b) (sym one.1) ∙ held;
        }

pub takes :
    (s : Slash) (cs : List Ch) (t : List ℕ) (n offset b more : ℕ) → has (is_plain 42) (slice_get cs n) ≡ false →
    slice_get t offset ≡ Some b → option_map (part_answer s b) (part_of (drop n cs)) ≡ Some (true, more) → n + more < length cs →
    TakesPart s cs t n offset more
takes s cs t n offset b more e f g h =
    let one = one-at s b cs n true more e g in
    record {
      set = one.set;
      byte = b;
      parts_are = one.parts_are;
      text_is = drop-some offset t b f;
      held = one.answered;
      at_within = h;
      offset_within = slice_get_within t offset b f;
    }

pub stuck-byte :
    (s : Slash) (cs : List Ch) (t : List ℕ) (n offset b more : ℕ) → has (is_plain 42) (slice_get cs n) ≡ false →
    slice_get t offset ≡ Some b → option_map (part_answer s b) (part_of (drop n cs)) ≡ Some (false, more) →
    fits (parts (drop n cs)) (drop offset t) s ≡ false
stuck-byte s cs t n offset b more e f g =
    let one = one-at s b cs n false more e g in
    ap (λ p. fits p (drop offset t) s) one.parts_are
    ∙ ap (λ x. fits (One one.set ∷ parts (drop (n + 1 + more) cs)) x s) (drop-some offset t b f)
    ∙ fits-one s one.set (parts (drop (n + 1 + more) cs)) b (drop (offset + 1) t)
    ∙ and_left (set_holds s one.set b) _ one.answered

pub stuck-end :
    (s : Slash) (cs : List Ch) (t : List ℕ) (n offset b : ℕ) → slice_get t offset ≡ Some b →
    option_map (part_answer s b) (part_of (drop n cs)) ≡ None → fits (parts (drop n cs)) (drop offset t) s ≡ false
stuck-end s cs t n offset b f g = go (slice_get cs n) refl
  where
    go : (o : Option Ch) → slice_get cs n ≡ o → fits (parts (drop n cs)) (drop offset t) s ≡ false
    go None h =
        ap (λ p. fits p (drop offset t) s) (parts-none n cs h) ∙ ap (λ x. fits [] x s) (drop-some offset t b f)
        ∙ fits-empty-some s b (drop (offset + 1) t)
    go (Some c) h =
        let there : option_map (part_answer s b) (part_of (drop n cs)) ≡ Some
        (part_answer s b (part_at c (drop (n + 1) cs))) = ap (option_map (part_answer s b)) (part_of-at n cs c h) in cc

pub stuck-text :
    (s : Slash) (cs : List Ch) (t : List ℕ) (n offset : ℕ) → has (is_plain 42) (slice_get cs n) ≡ false →
    slice_get t offset ≡ None → n < length cs → fits (parts (drop n cs)) (drop offset t) s ≡ false
stuck-text s cs t n offset e f h = go (slice_get cs n) refl
  where
    go : (o : Option Ch) → slice_get cs n ≡ o → fits (parts (drop n cs)) (drop offset t) s ≡ false
    go None g = let some = slice_get-get_or cs n (record { byte = 0; escaped = false }) h in cc
    go (Some c) g =
        let one = part-one c (drop (n + 1) cs) (ap (has (is_plain 42)) (sym g) ∙ e) in
        let part : Some (part_at c (drop (n + 1) cs)) ≡ Some (One one.0, (part_at c (drop (n + 1) cs)).1) =
        ap Some (pair-is (part_at c (drop (n + 1) cs)) (One one.0) (part_at c (drop (n + 1) cs)).1 one.1 refl) in
        ap (λ p. fits p (drop offset t) s) (parts-next n cs (One one.0) (part_at c (drop (n + 1) cs)).1 (part_of-at n cs c g ∙ part))
        ∙ ap (λ x. fits (One one.0 ∷ parts (drop (n + 1 + (part_at c (drop (n + 1) cs)).1) cs)) x s) (drop-none offset t f)
        ∙ fits-one-empty s one.0 (parts (drop (n + 1 + (part_at c (drop (n + 1) cs)).1) cs))

pub finished :
    (s : Slash) (cs : List Ch) (t : List ℕ) (n offset : ℕ) → slice_get t offset ≡ None → length cs ≤ n →
    fits (parts (drop n cs)) (drop offset t) s ≡ true
finished s cs t n offset f h =
    ap (λ p. fits p (drop offset t) s) (parts-none n cs (slice_get_past cs n h))
    ∙ ap (λ x. fits [] x s) (drop-none offset t f) ∙ fits-empty-empty s

-- ---- What the loop keeps

-- before the first star the rest alone decides; after it, also what the last star may still take
pub record Retries (s : Slash) (cs : List Ch) (t : List ℕ) (at offset start from : ℕ) : Type 0 where
  pub start_within : start ≤ at
  pub same : fits (parts cs) t s ≡ (fits (parts (drop at cs)) (drop offset t) s || later s (parts (drop start cs)) (drop from t))
  pub reached : Reached s (parts (drop start cs)) (drop from t) (parts (drop at cs)) (drop offset t)

abbrev pub Keeps : Slash → List Ch → List ℕ → ℕ → ℕ → Option (ℕ × ℕ) → Type 0
Keeps s cs t at offset None = fits (parts cs) t s ≡ fits (parts (drop at cs)) (drop offset t) s
Keeps s cs t at offset (Some r) = Retries s cs t at offset r.0 r.1

pub keeps-star :
    (s : Slash) (cs : List Ch) (t : List ℕ) (at offset : ℕ) (retry : Option (ℕ × ℕ)) → Keeps s cs t at offset retry →
    IsStarred cs at → Retries s cs t (at + 1) offset (at + 1) offset
keeps-star s cs t at offset None k i = record {
  start_within = omega arith;
  same = k ∙ ap (λ p. fits p (drop offset t) s) i.parts_are ∙ fits-star s (parts (drop (at + 1) cs)) (drop offset t);
  reached = reached-start s (parts (drop (at + 1) cs)) (drop offset t);
}
keeps-star s cs t at offset (Some r) k i = record {
  start_within = omega arith;
  same =
      k.same
      ∙ ap (λ p. fits p (drop offset t) s || later s (parts (drop r.0 cs)) (drop r.1 t)) i.parts_are
      ∙ fits-star-again s (parts (drop r.0 cs)) (drop r.1 t) (parts (drop (at + 1) cs)) (drop offset t)
      (let P : List Part → Type 0 = λ p. Reached s (parts (drop r.0 cs)) (drop r.1 t) p (drop offset t) in subst P i.parts_are k.reached);
  reached = reached-start s (parts (drop (at + 1) cs)) (drop offset t);
}

fits-taken :
    (s : Slash) (cs : List Ch) (t : List ℕ) (at offset more : ℕ) → TakesPart s cs t at offset more →
    fits (parts (drop at cs)) (drop offset t) s ≡ fits (parts (drop (at + 1 + more) cs)) (drop (offset + 1) t) s
fits-taken s cs t at offset more k =
    ap (λ p. fits p (drop offset t) s) k.parts_are
    ∙ ap (λ x. fits (One k.set ∷ parts (drop (at + 1 + more) cs)) x s) k.text_is
    ∙ fits-one s k.set (parts (drop (at + 1 + more) cs)) k.byte (drop (offset + 1) t)
    ∙ and-then (set_holds s k.set k.byte) _ k.held

pub keeps-taken :
    (s : Slash) (cs : List Ch) (t : List ℕ) (at offset more : ℕ) (retry : Option (ℕ × ℕ)) → Keeps s cs t at offset retry →
    TakesPart s cs t at offset more → Keeps s cs t (at + 1 + more) (offset + 1) retry
keeps-taken s cs t at offset more None k i = k ∙ fits-taken s cs t at offset more i
keeps-taken s cs t at offset more (Some r) k i = record {
  start_within = omega (arith, k.start_within);
  same = k.same ∙ ap (λ b. b || later s (parts (drop r.0 cs)) (drop r.1 t)) (fits-taken s cs t at offset more i);
  reached =
      let P : List Part → Type 0 = λ p. Reached s (parts (drop r.0 cs)) (drop r.1 t) p (drop offset t) in
      let Q : List ℕ → Type 0 = λ x. Reached s (parts (drop r.0 cs)) (drop r.1 t) (One i.set ∷ parts (drop (at + 1 + more) cs)) x in
      reached-one s (parts (drop r.0 cs)) (drop r.1 t) i.set (parts (drop (at + 1 + more) cs)) i.byte (drop (offset + 1) t)
      (subst Q i.text_is (subst P i.parts_are k.reached)) i.held;
}

pub keeps-back :
    (s : Slash) (cs : List Ch) (t : List ℕ) (at offset start from : ℕ) → Retries s cs t at offset start from →
    fits (parts (drop at cs)) (drop offset t) s ≡ false → is_free_byte s (slice_get t from) ≡ true →
    Retries s cs t start (from + 1) start (from + 1)
keeps-back s cs t at offset start from k e f = go (slice_get t from) refl
  where
    go : (o : Option ℕ) → slice_get t from ≡ o → Retries s cs t start (from + 1) start (from + 1)
    go None g = absurd (let no : is_free_byte s (slice_get t from) ≡ false = ap (is_free_byte s) g in
        let h : true ≡ false = sym f ∙ no in cc)
    go (Some b) g = record {
      start_within = omega arith;
      same =
          k.same
          ∙ ap (λ x. x || later s (parts (drop start cs)) (drop from t)) e
          ∙ ap (later s (parts (drop start cs))) (drop-some from t b g)
          ∙ later-back s (parts (drop start cs)) b (drop (from + 1) t) (ap (is_free_byte s) (sym g) ∙ f);
      reached = reached-start s (parts (drop start cs)) (drop (from + 1) t);
    }

pub ends-stuck :
    (s : Slash) (cs : List Ch) (t : List ℕ) (at offset start from : ℕ) → Retries s cs t at offset start from →
    fits (parts (drop at cs)) (drop offset t) s ≡ false → is_free_byte s (slice_get t from) ≡ false → fits (parts cs) t s ≡ false
ends-stuck s cs t at offset start from k e f = go (slice_get t from) refl
  where
    go : (o : Option ℕ) → slice_get t from ≡ o → fits (parts cs) t s ≡ false
    go None g = k.same ∙ ap (λ x. x || later s (parts (drop start cs)) (drop from t)) e
        ∙ ap (later s (parts (drop start cs))) (drop-none from t g)
    go (Some b) g =
        k.same ∙ ap (λ x. x || later s (parts (drop start cs)) (drop from t)) e
        ∙ ap (later s (parts (drop start cs))) (drop-some from t b g)
        ∙ later-not_free s (parts (drop start cs)) b (drop (from + 1) t) (ap (is_free_byte s) (sym g) ∙ f)

-- ---- Characters before the first special one

-- the answer of a character that is not special
literal-answer :
    (s : Slash) (cs : List Ch) (n b : ℕ) (c : Ch) → slice_get cs n ≡ Some c → (is_plain 42 c || (is_plain 63 c || is_plain 91 c)) ≡ false →
    option_map (part_answer s b) (part_of (drop n cs)) ≡ Some (b == c.byte, 0)
literal-answer s cs n b c e special =
    let star = or_parts (is_plain 42 c) (is_plain 63 c || is_plain 91 c) special in
    let others = or_parts (is_plain 63 c) (is_plain 91 c) star.1 in
    ap (option_map (part_answer s b)) (part_of-at n cs c e ∙ ap Some (part-byte c (drop (n + 1) cs) star.0 others.0 others.1))

no-star : (cs : List Ch) (n : ℕ) (c : Ch) → slice_get cs n ≡ Some c → (is_plain 42 c || (is_plain 63 c || is_plain 91 c)) ≡ false →
    has (is_plain 42) (slice_get cs n) ≡ false
no-star cs n c e special = ap (has (is_plain 42)) e ∙ (or_parts (is_plain 42 c) (is_plain 63 c || is_plain 91 c) special).0

pub literal-kept :
    (s : Slash) (cs : List Ch) (t : List ℕ) (n b : ℕ) (c : Ch) → Keeps s cs t n n None → slice_get cs n ≡ Some c →
    (is_plain 42 c || (is_plain 63 c || is_plain 91 c)) ≡ false → slice_get t n ≡ Some b → b ≡ c.byte → Keeps s cs t (n + 1) (n + 1) None
literal-kept s cs t n b c k e special f same =
    let within = slice_get_within cs n c e in
    let answer : option_map (part_answer s b) (part_of (drop n cs)) ≡ Some (true, 0) =
    literal-answer s cs n b c e special ∙ ap (λ x. Some (x, 0)) (eq-eqb b c.byte same) in
    let next = keeps-taken s cs t n n 0 None k (takes s cs t n n b 0 (no-star cs n c e special) f answer (omega (arith, within))) in
    next ∙ ap (λ m. fits (parts (drop m cs)) (drop (n + 1) t) s) (add-zero (n + 1))

pub literal-differs :
    (s : Slash) (cs : List Ch) (t : List ℕ) (n b : ℕ) (c : Ch) → Keeps s cs t n n None → slice_get cs n ≡ Some c →
    (is_plain 42 c || (is_plain 63 c || is_plain 91 c)) ≡ false → slice_get t n ≡ Some b → (b ≡ c.byte → ⊥) → fits (parts cs) t s ≡ false
literal-differs s cs t n b c k e special f other =
    k ∙ stuck-byte s cs t n n b 0 (no-star cs n c e special) f (literal-answer s cs n b c e special
    ∙ ap (λ x. Some (x, 0)) (ne_eqb b c.byte other))

pub literal-ends :
    (s : Slash) (cs : List Ch) (t : List ℕ) (n : ℕ) (c : Ch) → Keeps s cs t n n None → slice_get cs n ≡ Some c →
    (is_plain 42 c || (is_plain 63 c || is_plain 91 c)) ≡ false → slice_get t n ≡ None → fits (parts cs) t s ≡ false
literal-ends s cs t n c k e special f =
    k ∙ stuck-text s cs t n n (no-star cs n c e special) f (slice_get_within cs n c e)

-- ---- The work that is left

abbrev pub rank : ℕ → Option (ℕ × ℕ) → ℕ
rank n None = n + 1
rank n (Some r) = n - r.0

abbrev pub rest : ℕ → Option (ℕ × ℕ) → ℕ
rest m None = m
rest m (Some r) = m - r.1

-- by the last star's offset, then by what it has taken, then by the characters that are left
unfoldable pub work : ℕ → ℕ → ℕ → Option (ℕ × ℕ) → ℕ
work n m at retry = (rank n retry * (m + 1) + rest m retry) * (n + 1) + (n - at)

falls-product : (a b m x y : ℕ) → a + 1 ≤ b → x < m → a * m + x < b * m + y
falls-product a b m x y e f = let h : (a + 1) * m ≤ b * m = mul-le-mul_right m e in omega (arith, h)

pub work-star :
    (s : Slash) (cs : List Ch) (t : List ℕ) (at offset : ℕ) (retry : Option (ℕ × ℕ)) → Keeps s cs t at offset retry → at < length cs →
    work (length cs) (length t) (at + 1) (Some (at + 1, offset)) < work (length cs) (length t) at retry
unfolding work
work-star s cs t at offset None k h =
    let n = length cs in let m = length t in
    let inner : (n - (at + 1)) * (m + 1) + (m - offset) < (n + 1) * (m + 1) + m =
    falls-product (n - (at + 1)) (n + 1) (m + 1) (m - offset) m (omega arith) (omega arith) in
    falls-product ((n - (at + 1)) * (m + 1) + (m - offset)) ((n + 1) * (m + 1) + m) (n + 1) (n - (at + 1)) (n - at)
    (omega (arith, inner)) (omega arith)
work-star s cs t at offset (Some r) k h =
    let n = length cs in let m = length t in
    let before = k.start_within in
    let inner : (n - (at + 1)) * (m + 1) + (m - offset) < (n - r.0) * (m + 1) + (m - r.1) =
    falls-product (n - (at + 1)) (n - r.0) (m + 1) (m - offset) (m - r.1) (omega (arith, before, h)) (omega arith) in
    falls-product ((n - (at + 1)) * (m + 1) + (m - offset)) ((n - r.0) * (m + 1) + (m - r.1)) (n + 1) (n - (at + 1))
    (n - at) (omega (arith, inner)) (omega arith)

pub work-taken : (n m at more : ℕ) (retry : Option (ℕ × ℕ)) → at + more < n → work n m (at + 1 + more) retry < work n m at retry
unfolding work
work-taken n m at more retry h =
    let e : n - (at + 1 + more) < n - at = omega (arith, h) in
    below-plus ((rank n retry * (m + 1) + rest m retry) * (n + 1)) (n - (at + 1 + more)) (n - at) e
  where
    below-plus : (a x y : ℕ) → x < y → a + x < a + y
    below-plus a x y f = omega (arith, f)

pub work-back : (n m at start from : ℕ) → from < m → work n m start (Some (start, from + 1)) < work n m at (Some (start, from))
unfolding work
work-back n m at start from h =
    falls-product ((n - start) * (m + 1) + (m - (from + 1))) ((n - start) * (m + 1) + (m - from)) (n + 1) (n - start) (n - at)
    (less ((n - start) * (m + 1)) m from h) (omega arith)
  where
    less : (a m from : ℕ) → from < m → a + (m - (from + 1)) + 1 ≤ a + (m - from)
    less a m from f = omega (arith, f)

pub free-within : (s : Slash) (t : List ℕ) (from : ℕ) → is_free_byte s (slice_get t from) ≡ true → from < length t
free-within s t from f = go (slice_get t from) refl
  where
    go : (o : Option ℕ) → slice_get t from ≡ o → from < length t
    go None g = absurd (let no : is_free_byte s (slice_get t from) ≡ false = ap (is_free_byte s) g in
        let h : true ≡ false = sym f ∙ no in cc)
    go (Some b) g = slice_get_within t from b g
