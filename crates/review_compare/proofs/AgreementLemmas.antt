-- A list answers in one of its ways, and two that agree answer alike.
use Rattle.std.proofs.Common.{◌≡◌, Bool, true, false, cond, ◌||◌, List, [], ◌∷◌, ◌++◌, Option, Some, None, refl, sym, ◌∙◌, ap, inl, inr}
use Rattle.std.proofs.Common.{◌⊎◌}
use Rattle.std.specs.Prelude.{option_map}
use Rattle.std.specs.Option.{option_or}
use Rattle.std.specs.List.{list_any, list_all}
use Rattle.std.proofs.lemmas.Bool.{and_parts, or_cases, or_from}
use Rattle.std.proofs.lemmas.List.Folds.{list_any-append}
use Rattle.sudo_verdict.specs.Last.{last_that}
use Rattle.review_compare.specs.Agreement.{Ruling, Way, answer_of, ways_by_one, ways, Tests, AreSound, is_covered, are_disjoint}
use Rattle.review_compare.specs.Agreement.{answer_alike, is_impossible, agree, Agreement}

-- the ruling that answers, which passes the test with its way
record Found {A O : Type 0} (f : Ruling A O → Bool) (test : Way A O → Bool) (rs : List (Ruling A O)) : Type 0 where
  by : Ruling A O
  later : List (Ruling A O)
  passes : test (record { by = Some by; later = later }) ≡ true
  last : last_that f rs ≡ Some by
  fits : f by ≡ true
  none : list_any f later ≡ false

record NotFound {A O : Type 0} (f : Ruling A O → Bool) (rs : List (Ruling A O)) : Type 0 where
  last : last_that f rs ≡ None
  none : list_any f rs ≡ false

module _ {A O : Type 0} (f : Ruling A O → Bool) (test : Way A O → Bool) where
  answered : (rs : List (Ruling A O)) → list_all test (ways_by_one rs) ≡ true → NotFound f rs ⊎ Found f test rs
  answered [] e = inl (record { last = refl; none = refl })
  answered (r ∷ rs) e =
      let parts = and_parts (test (record { by = Some r; later = rs })) (list_all test (ways_by_one rs)) e in
      go (answered rs parts.1) (f r) refl parts.0
    where
      go :
          NotFound f rs ⊎ Found f test rs → (b : Bool) → f r ≡ b → test (record { by = Some r; later = rs }) ≡ true →
          NotFound f (r ∷ rs) ⊎ Found f test (r ∷ rs)
      go (inr w) b is passes = inr (record {
        by = w.by;
        later = w.later;
        passes = w.passes;
        last = ap (λ o. option_or o (cond (f r) (Some r) None)) w.last;
        fits = w.fits;
        none = w.none;
      })
      go (inl w) true is passes = inr (record {
        by = r;
        later = rs;
        passes = passes;
        last = ap (λ o. option_or o (cond (f r) (Some r) None)) w.last ∙ ap (λ b. cond b (Some r) None) is;
        fits = is;
        none = w.none;
      })
      go (inl w) false is passes = inl (record {
        last = ap (λ o. option_or o (cond (f r) (Some r) None)) w.last ∙ ap (λ b. cond b (Some r) None) is;
        none = or_from (f r) (list_any f rs) is w.none;
      })

module _ {A O : Type 0} (t : Tests A O) (fits : A → Bool) (sound : AreSound t fits) where
  abbrev f : Ruling A O → Bool
  f r = fits r.atom

  -- the atom of the ruling fits, if there is one
  abbrev Fitting : Option (Ruling A O) → Type 0
  Fitting None = Unit {0}
  Fitting (Some r) = f r ≡ true

  abbrev answer : Option (Ruling A O) → Option O
  answer o = option_map (λ r. r.answer) o

  covered_fits : (r : Ruling A O) (ks : List (Ruling A O)) → f r ≡ true → list_any (λ k. t.covers k.atom r.atom) ks ≡ true →
      list_any f ks ≡ true
  covered_fits r [] h e = cc
  covered_fits r (k ∷ ks) h e = go (t.covers k.atom r.atom) refl (f k) refl e (covered_fits r ks h)
    where
      go :
          (b : Bool) → t.covers k.atom r.atom ≡ b → (c : Bool) → f k ≡ c → (b || list_any (λ k. t.covers k.atom r.atom) ks) ≡ true →
          (list_any (λ k. t.covers k.atom r.atom) ks ≡ true → list_any f ks ≡ true) → (c || list_any f ks) ≡ true
      go b is true at e rest = refl
      go true is false at e rest = absurd (let yes : f k ≡ true = sound.covers k.atom r.atom is h in cc)
      go false is false at e rest = rest e

  not_covered : (o : Option (Ruling A O)) (ks : List (Ruling A O)) → Fitting o → list_any f ks ≡ false → is_covered t ks o ≡ true → ⊥
  not_covered None ks h none e = cc
  not_covered (Some r) ks h none e = let yes : list_any f ks ≡ true = covered_fits r ks h e in cc

  not_disjoint : (a b : Option (Ruling A O)) → Fitting a → Fitting b → are_disjoint t a b ≡ true → ⊥
  not_disjoint None None h i e = cc
  not_disjoint None (Some s) h i e = cc
  not_disjoint (Some r) None h i e = cc
  not_disjoint (Some r) (Some s) h i e = let no : f s ≡ false = sound.disjoint r.atom s.atom e h in cc

  alike : (a b : Option (Ruling A O)) → answer_alike t a b ≡ true → answer a ≡ answer b
  alike None None e = refl
  alike None (Some s) e = cc
  alike (Some r) None e = cc
  alike (Some r) (Some s) e = ap (λ x. Some x) (sound.same r.answer s.answer e)

  -- none of these fits, so neither ruling is covered, and the two are not disjoint
  neither_way :
      (a b : Option (Ruling A O)) (ks : List (Ruling A O)) → Fitting a → Fitting b → list_any f ks ≡ false →
      ((is_covered t ks a || is_covered t ks b) || are_disjoint t a b) ≡ true → ⊥
  neither_way a b ks h i none e = go (or_cases (is_covered t ks a || is_covered t ks b) (are_disjoint t a b) e)
    where
      one : (is_covered t ks a ≡ true) ⊎ (is_covered t ks b ≡ true) → ⊥
      one (inl c) = not_covered a ks h none c
      one (inr c) = not_covered b ks i none c

      go : ((is_covered t ks a || is_covered t ks b) ≡ true) ⊎ (are_disjoint t a b ≡ true) → ⊥
      go (inl c) = one (or_cases (is_covered t ks a) (is_covered t ks b) c)
      go (inr d) = not_disjoint a b h i d

  possible :
      (v w : Way A O) → Fitting v.by → Fitting w.by → list_any f v.later ≡ false → list_any f w.later ≡ false →
      is_impossible t v w ≡ true → ⊥
  possible v w h i a b e =
      neither_way v.by w.by (v.later ++ w.later) h i
      (list_any-append f v.later w.later ∙ or_from (list_any f v.later) (list_any f w.later) a b) e

  pair :
      (v w : Way A O) → Fitting v.by → Fitting w.by → list_any f v.later ≡ false → list_any f w.later ≡ false →
      (answer_alike t v.by w.by || is_impossible t v w) ≡ true → answer v.by ≡ answer w.by
  pair v w h i a b e = go (or_cases (answer_alike t v.by w.by) (is_impossible t v w) e)
    where
      go : (answer_alike t v.by w.by ≡ true) ⊎ (is_impossible t v w ≡ true) → answer v.by ≡ answer w.by
      go (inl same) = alike v.by w.by same
      go (inr x) = absurd (possible v w h i a b x)

  -- how a list answers: a way of its own, which passes each test that all its ways pass
  answers_so :
      (test : Way A O → Bool) (rs : List (Ruling A O)) → list_all test (ways rs) ≡ true →
      (v : Way A O) × (test v ≡ true) × Fitting v.by × (list_any f v.later ≡ false) × (last_that f rs ≡ v.by)
  answers_so test rs e =
      let parts = and_parts (test (record { by = None; later = rs })) (list_all test (ways_by_one rs)) e in
      go parts.0 (answered f test rs parts.1)
    where
      go :
          test (record { by = None; later = rs }) ≡ true → NotFound f rs ⊎ Found f test rs →
          (v : Way A O) × (test v ≡ true) × Fitting v.by × (list_any f v.later ≡ false) × (last_that f rs ≡ v.by)
      go p (inl w) = (record { by = None; later = rs }, p, tt, w.none, w.last)
      go p (inr w) = (record { by = Some w.by; later = w.later }, w.passes, w.fits, w.none, w.last)

  agreed : (rs ss : List (Ruling A O)) → agree t rs ss ≡ true → answer_of fits rs ≡ answer_of fits ss
  agreed rs ss e =
      let v = answers_so (λ v. list_all (λ w. answer_alike t v.by w.by || is_impossible t v w) (ways ss)) rs e in
      let w = answers_so (λ w. answer_alike t v.0.by w.by || is_impossible t v.0 w) ss v.1 in
      ap answer v.4 ∙ pair v.0 w.0 v.2 w.2 v.3 w.3 w.1 ∙ sym (ap answer w.4)

pub agreement : (A O : Type 0) → Agreement A O
agreement A O = record { holds = λ t fits rs ss sound e. agreed t fits sound rs ss e }
