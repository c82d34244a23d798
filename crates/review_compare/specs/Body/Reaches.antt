-- Up to where rows have one that applies wherever a row does, and rows that agree; only proofs of bodies use these.
use Rattle.std.specs.Prelude.{◌≡◌, ◌+◌, ◌-◌, ◌<◌, ◌≤◌, ℕ, suc, zero, Bool, true, cond, List, [], ◌∷◌, drop, get_or, length}
use Rattle.review_compare.specs.declared.reach.Reach.{Reach}
use Rattle.review_compare.specs.declared.ruling.Ruled.{Ruled}
use Rattle.review_compare.specs.Cells.{Decider, covers_where, lined_of}
use Rattle.review_compare.specs.Lines.{Lined}
use Rattle.review_compare.specs.Body.Shown.{all_shown, is_covered_by_either, pair_agrees, shown}

-- one row more before so many
abbrev pub reach_after : Bool → ℕ → ℕ
reach_after covers zero = cond covers 1 0
reach_after covers (suc n) = suc (suc n)

-- how many rows there are up to the last that applies wherever the command does; 0 if none does
abbrev pub reach : List Decider → Lined → ℕ
reach [] a = 0
reach (d ∷ ds) a = reach_after (covers_where (lined_of d) a) (reach ds a)

abbrev pub reach_of : List Ruled → List Ruled → Ruled → Reach
reach_of rs ss r = record {
  old = reach (all_shown rs) (lined_of (shown r));
  new = reach (all_shown ss) (lined_of (shown r));
}

-- the reach of the row at an index, which is behind the front
pub record IsReachAt (reaches : List Reach) (front index : ℕ) (r : Reach) : Type 0 where
  pub behind : front ≤ index
  pub within : index - front < length reaches
  pub is : r ≡ get_or reaches (index - front) r

-- ---- Rows that agree, by their indices in both policies

-- the rows at two indices, with those behind each
abbrev pub PairAgrees : List Ruled → List Ruled → ℕ → ℕ → Type 0
PairAgrees rs ss i j = (r s : Ruled) → r ≡ get_or rs i r → s ≡ get_or ss j s →
    pair_agrees (shown r) (all_shown (drop (i + 1) rs)) (shown s) (all_shown (drop (j + 1) ss)) ≡ true

-- a row of the first list with each of the second from one on to another
abbrev pub AgreesFrom : List Ruled → List Ruled → ℕ → ℕ → ℕ → Type 0
AgreesFrom rs ss i from end = (j : ℕ) → from ≤ j → j < end → PairAgrees rs ss i j

-- where none of the first list answers, none of the second does from one on to another
abbrev pub NoneAgree : List Ruled → List Ruled → ℕ → ℕ → Type 0
NoneAgree rs ss from end = (j : ℕ) → from ≤ j → j < end → (s : Ruled) → s ≡ get_or ss j s →
    is_covered_by_either (all_shown rs) (all_shown (drop (j + 1) ss)) (lined_of (shown s)) ≡ true

-- where a row of the first list answers, one of the second does, and it agrees with each up to one
pub record AgreesWithAll (rs ss : List Ruled) (i end : ℕ) : Type 0 where
  pub covered : (r : Ruled) → r ≡ get_or rs i r →
      is_covered_by_either (all_shown (drop (i + 1) rs)) (all_shown ss) (lined_of (shown r)) ≡ true
  pub pairs : AgreesFrom rs ss i 0 end

-- a row of the first list agrees with all of the second, or, if it is a common one at the front, with those behind the front
pub record Agrees (rs ss : List Ruled) (i front end : ℕ) : Type 0 where
  pub all : front ≤ i → AgreesWithAll rs ss i end
  pub pairs : AgreesFrom rs ss i front end

pub record AllAgree (rs ss : List Ruled) (front old_end new_end : ℕ) : Type 0 where
  pub none : NoneAgree rs ss front new_end
  pub each : (i : ℕ) → i < old_end → Agrees rs ss i front new_end
