-- What a chain asks for, as a program finds it along what was found; only proofs of bodies need these definitions.
use Rattle.std.specs.Prelude.{◌≡◌, ℕ, List, [], ◌∷◌, All, None, Some, length, slice_get}
use Rattle.std.specs.List.{Contains}
use Rattle.review_grants.specs.declared.marks.Marks.{Marks}
use Rattle.review_roots.specs.declared.host.HostSteps.{HostSteps}
use Rattle.review_roots.specs.declared.level.Level.{Level}
use Rattle.review_roots.specs.declared.search.Found.{Found}
use Rattle.review_roots.specs.declared.state.State.{State}
use Rattle.review_roots.specs.declared.way.Password.{Password}
use Rattle.review_roots.specs.declared.way.Way.{Way}
use Rattle.review_roots.specs.Body.Found.{AreGiven, AreLinked, found_states}
use Rattle.review_roots.specs.Chains.{LeadsAlong, Steps}
use Rattle.review_roots.specs.Ways.{first_row, marks_along, password_along}

-- the chain is that of the found state at the index: its step leads to the chain's first state, and so on to one without a step
abbrev pub IsAlong : List Found → ℕ → List State → Type 0
IsAlong found i [] = (f : Found) × ((slice_get found i ≡ Some f) × (f.next ≡ None))
IsAlong found i (s ∷ ss) =
    (f : Found) × (next : ℕ) × (t : Found) × (slice_get found i ≡ Some f) × (f.next ≡ Some next) × (slice_get found next ≡ Some t)
    × (t.state ≡ s) × IsAlong found next ss

-- the chain leads from the found state at the index to the goal, and has its steps
abbrev pub LeadsWhole : List Found → ℕ → List State → Type 0
LeadsWhole found index chain =
    (g : Steps State) (l : Level) (f : Found) → AreLinked g l found → slice_get found index ≡ Some f →
    LeadsAlong g l f.state chain × (f.steps ≡ length chain)

-- what the found state at the index is given has the last row that allows the first step of the chain
abbrev pub HasRow : List Found → ℕ → List State → Type 0
HasRow found index chain =
    (h : HostSteps) (f : Found) → AreGiven h found → slice_get found index ≡ Some f → f.given.by ≡ first_row h f.state chain

-- the password is the worst for which a step of the chain asks that begins with the user
abbrev pub HasPassword : List Found → ℕ → ℕ → List State → Password → Type 0
HasPassword found user index chain password =
    (h : HostSteps) (f : Found) → AreGiven h found → slice_get found index ≡ Some f →
    password ≡ password_along h user f.state chain

-- the notes are those that the steps of the chain depend on
abbrev pub HasMarks : List Found → ℕ → List State → Marks → Type 0
HasMarks found index chain marks =
    (h : HostSteps) (f : Found) → AreGiven h found → slice_get found index ≡ Some f → marks ≡ marks_along h f.state chain

-- the chain is that of the found state at the index, and so are the row, the password and the notes
pub record IsTraced (h : HostSteps) (found : List Found) (index : ℕ) (w : Way) : Type 0 where
  pub along : IsAlong found index w.chain.items
  pub leads : LeadsWhole found index w.chain.items
  pub inside : All (Contains (found_states found)) w.chain.items
  pub row : (f : Found) → slice_get found index ≡ Some f → w.by ≡ first_row h f.state w.chain.items
  pub password : (f : Found) → slice_get found index ≡ Some f → w.password ≡ password_along h f.state.user f.state w.chain.items
  pub marks : (f : Found) → slice_get found index ≡ Some f → w.marks ≡ marks_along h f.state w.chain.items
