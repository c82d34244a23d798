-- When two lists of rulings give one answer whatever is asked, by tests on pairs of their atoms alone.
use Rattle.std.specs.Prelude.{◌≡◌, Bool, true, false, ◌||◌, List, [], ◌∷◌, ◌++◌, Option, Some, None, option_map}
use Rattle.std.specs.List.{list_any, list_all}
use Rattle.sudo_verdict.specs.Last.{last_that}

-- an atom and the answer to what fits it
pub record Ruling (A O : Type 0) : Type 0 where
  pub atom : A
  pub answer : O

-- the last ruling that fits answers
abbrev pub answer_of : {A O : Type 0} → (A → Bool) → List (Ruling A O) → Option O
answer_of fits rs = option_map (λ r. r.answer) (last_that (λ r. fits r.atom) rs)

-- one way to be answered: by no ruling or by one, where none of the later ones fits
pub record Way (A O : Type 0) : Type 0 where
  pub by : Option (Ruling A O)
  pub later : List (Ruling A O)

abbrev pub ways_by_one : {A O : Type 0} → List (Ruling A O) → List (Way A O)
ways_by_one [] = []
ways_by_one (r ∷ rs) = record { by = Some r; later = rs } ∷ ways_by_one rs

abbrev pub ways : {A O : Type 0} → List (Ruling A O) → List (Way A O)
ways rs = record { by = None; later = rs } ∷ ways_by_one rs

-- tests on two atoms and on two answers
pub record Tests (A O : Type 0) : Type 0 where
  -- the first fits wherever the second does
  pub covers : A → A → Bool
  -- nothing fits both
  pub disjoint : A → A → Bool
  pub same : O → O → Bool

-- what the tests say is so
pub record AreSound {A O : Type 0} (t : Tests A O) (fits : A → Bool) : Type 0 where
  pub covers : (k a : A) → t.covers k a ≡ true → fits a ≡ true → fits k ≡ true
  pub disjoint : (a b : A) → t.disjoint a b ≡ true → fits a ≡ true → fits b ≡ false
  pub same : (x y : O) → t.same x y ≡ true → x ≡ y

-- the ruling's atom is covered by one of these
abbrev pub is_covered : {A O : Type 0} → Tests A O → List (Ruling A O) → Option (Ruling A O) → Bool
is_covered t later None = false
is_covered t later (Some r) = list_any (λ k. t.covers k.atom r.atom) later

abbrev pub are_disjoint : {A O : Type 0} → Tests A O → Option (Ruling A O) → Option (Ruling A O) → Bool
are_disjoint t (Some r) (Some s) = t.disjoint r.atom s.atom
are_disjoint t _ _ = false

abbrev pub answer_alike : {A O : Type 0} → Tests A O → Option (Ruling A O) → Option (Ruling A O) → Bool
answer_alike t None None = true
answer_alike t (Some r) (Some s) = t.same r.answer s.answer
answer_alike t _ _ = false

-- nothing is answered in both these ways: a later ruling of either list covers one of the two, or they are disjoint
abbrev pub is_impossible : {A O : Type 0} → Tests A O → Way A O → Way A O → Bool
is_impossible t v w = (is_covered t (v.later ++ w.later) v.by || is_covered t (v.later ++ w.later) w.by) || are_disjoint t v.by w.by

-- each pair of ways answers alike or is impossible
abbrev pub agree : {A O : Type 0} → Tests A O → List (Ruling A O) → List (Ruling A O) → Bool
agree t rs ss = list_all (λ v. list_all (λ w. answer_alike t v.by w.by || is_impossible t v w) (ways ss)) (ways rs)

-- lists that agree give one answer, whatever is asked: `fits` stands for any one command
pub record Agreement (A O : Type 0) : Type 0 where
  pub holds :
      (t : Tests A O) (fits : A → Bool) (rs ss : List (Ruling A O)) → AreSound t fits → agree t rs ss ≡ true →
      answer_of fits rs ≡ answer_of fits ss
