-- Chains of steps that lead to a goal: steps have levels, and a chain has the least of its steps' levels.
use Rattle.std.specs.Prelude.{◌≡◌, ℕ, zero, suc, Bool, true, List, [], ◌∷◌, All, length}
use Rattle.std.specs.List.{Contains}
use Rattle.review_roots.specs.declared.level.Level.{Level}
use Rattle.review_roots.specs.Ranks.{is_at_least}

-- the states, the level of the step from one to another, and whether one is at the goal
pub record Steps (S : Type 0) : Type 0 where
  pub states : List S
  pub level : S → S → Level
  pub goal : S → Bool

-- n steps, each of level l or better, lead from a state to the goal
pub data Path {S : Type 0} (g : Steps S) (l : Level) : ℕ → S → Type 0 where
  here : {s : S} → Contains g.states s → g.goal s ≡ true → Path g l zero s
  more : {n : ℕ} {s t : S} → Contains g.states s → is_at_least l (g.level s t) ≡ true → Path g l n t → Path g l (suc n) s

-- a chain of level l or better leads from the state to the goal
abbrev pub HasPath : {S : Type 0} → Steps S → Level → S → Type 0
HasPath g l s = (n : ℕ) × Path g l n s

-- no chain of any length does
abbrev pub HasNoPath : {S : Type 0} → Steps S → Level → S → Type 0
HasNoPath g l s = (n : ℕ) → Path g l n s → ⊥

-- the chain leads from the state to the goal: each step has level l or better, and its last state is at the goal
abbrev pub LeadsAlong : {S : Type 0} → Steps S → Level → S → List S → Type 0
LeadsAlong g l s [] = g.goal s ≡ true
LeadsAlong g l s (t ∷ ts) = (is_at_least l (g.level s t) ≡ true) × LeadsAlong g l t ts

-- a chain through states that leads to the goal is a path
abbrev pub ChainsArePaths : Type 0 → Type 0
ChainsArePaths S =
    (g : Steps S) (l : Level) (s : S) (ts : List S) → Contains g.states s → All (Contains g.states) ts → LeadsAlong g l s ts →
    Path g l (length ts) s
