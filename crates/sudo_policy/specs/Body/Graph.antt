-- Aliases as a graph, definitions that only proofs need: each alias by its number, with a link for each member of its
-- definition: the number of the alias that the member names, or none.
use Rattle.std.specs.Prelude.{◌≡◌, ℕ, zero, suc, ◌+◌, ◌<◌, min, max, Bool, true, false, List, [], ◌∷◌, Option, Some}
use Rattle.std.specs.Prelude.{None, option_map, option_and_then, slice_get, Contains, length, IsTrue, ◌⊎◌, ◌↔◌}
use Rattle.sudo_policy.specs.declared.graph.Measure.{Measure}
use Rattle.sudo_policy.specs.declared.graph.State.{State}
use Rattle.sudo_policy.specs.declared.graph.State.TheVariants.{New, Open, Done, Looped}
use Rattle.sudo_policy.specs.Following.{Reading, option_join}

abbrev pub Links : Type 0
Links = List (List (Option ℕ))

-- the alias i has a member that names the alias j
pub record Edge (g : Links) (i j : ℕ) : Type 0 where
  pub row : List (Option ℕ)
  pub row_is : slice_get g i ≡ Some row
  pub has : Contains row (Some j)

-- one or more edges
pub data Path (g : Links) : ℕ → ℕ → Type 0 where
  step : {i j : ℕ} → Edge g i j → Path g i j
  more : {i j k : ℕ} → Edge g i j → Path g j k → Path g i k

-- a path from i leads to an alias on a cycle, or i is on one
pub record ReachesCycle (g : Links) (i : ℕ) : Type 0 where
  pub on : ℕ
  pub cycle : Path g on on
  pub way : (i ≡ on) ⊎ Path g i on

-- a root is i, or leads to it
pub record IsReached (g : Links) (roots : List (Option ℕ)) (i : ℕ) : Type 0 where
  pub root : ℕ
  pub among : Contains roots (Some root)
  pub way : (root ≡ i) ⊎ Path g root i

-- one mark for each of n aliases, true exactly if T holds of it
pub record MarksOf (n : ℕ) (T : ℕ → Type 0) (marks : List Bool) : Type 0 where
  pub same_length : length marks ≡ n
  pub exact : (i : ℕ) (mark : Bool) → slice_get marks i ≡ Some mark → IsTrue mark ↔ T i

-- every link of a row leads to one of the first n aliases
abbrev pub IsInside : List (Option ℕ) → ℕ → Type 0
IsInside row n = (i : ℕ) → Contains row (Some i) → i < n

-- every link leads to an alias
abbrev pub IsClosed : Links → Type 0
IsClosed g = (i j : ℕ) → Edge g i j → j < length g

-- depth and width, counted up to just beyond the limits on a written-out alias
abbrev pub measure_of_none : Measure
measure_of_none = record { depth = 0; width = 0 }

abbrev pub measure_of_one : Measure
measure_of_one = record { depth = 0; width = 1 }

abbrev pub measure_of_both : Measure → Measure → Measure
measure_of_both a b = record { depth = max a.depth b.depth; width = min (a.width + b.width) 65537 }

abbrev pub deeper : Measure → Measure
deeper a = record { depth = min (a.depth + 1) 65; width = a.width }

-- the measure of a list: its depth and width, up to just beyond the limits
abbrev pub list_measure : Reading Measure
list_measure = record { nothing = measure_of_none; join = measure_of_both; alone = λ _. Some measure_of_one; through = λ _ a. deeper a }

-- the measure of one link, where `inner` is that of an alias's definition
abbrev pub link_measure : (ℕ → Option Measure) → Option ℕ → Option Measure
link_measure inner None = Some measure_of_one
link_measure inner (Some j) = option_map deeper (inner j)

abbrev pub row_measure : (ℕ → Option Measure) → List (Option ℕ) → Option Measure
row_measure inner [] = Some measure_of_none
row_measure inner (l ∷ ls) = option_join measure_of_both (link_measure inner l) (row_measure inner ls)

-- the measure of an alias's definition, if no chain of more than `steps` aliases begins at a link of it
unfoldable pub measure_within : Links → ℕ → ℕ → Option Measure
measure_within g zero i = option_and_then (row_measure (λ _. None)) (slice_get g i)
measure_within g (suc steps) i = option_and_then (row_measure (measure_within g steps)) (slice_get g i)

-- the alias i has the measure a
pub record Measures (g : Links) (i : ℕ) (a : Measure) : Type 0 where
  pub steps : ℕ
  pub reads : measure_within g steps i ≡ Some a

-- the meaning of the state of an alias
abbrev pub StateHolds : Links → ℕ → State → Type 0
StateHolds g i New = Unit {0}
StateHolds g i Open = Unit {0}
StateHolds g i (Done a) = Measures g i a
StateHolds g i Looped = ReachesCycle g i

abbrev pub StatesHold : Links → List State → Type 0
StatesHold g states = (i : ℕ) (s : State) → slice_get states i ≡ Some s → StateHolds g i s

-- the open aliases lead to i
abbrev pub OpenLead : Links → List State → ℕ → Type 0
OpenLead g states i = (j : ℕ) → slice_get states j ≡ Some Open → Path g j i

abbrev pub is_new : State → Bool
is_new New = true
is_new Open = false
is_new (Done a) = false
is_new Looped = false

abbrev pub is_looped : State → Bool
is_looped New = false
is_looped Open = false
is_looped (Done a) = false
is_looped Looped = true

-- the measure of an alias that is done
abbrev pub measure_of_state : State → Option Measure
measure_of_state New = None
measure_of_state Open = None
measure_of_state (Done a) = Some a
measure_of_state Looped = None

abbrev pub done_measure : List State → ℕ → Option Measure
done_measure states i = option_and_then measure_of_state (slice_get states i)

-- the state of a new alias may change, but not to open; any other state stays
abbrev pub MayTurn : State → State → Type 0
MayTurn New t = (t ≡ Open) → ⊥
MayTurn Open t = t ≡ Open
MayTurn (Done a) t = t ≡ Done a
MayTurn Looped t = t ≡ Looped

abbrev pub Turned : List State → List State → Type 0
Turned old new = (i : ℕ) (s t : State) → slice_get old i ≡ Some s → slice_get new i ≡ Some t → MayTurn s t

-- an alias whose visit is over
abbrev pub IsSettled : State → Type 0
IsSettled New = ⊥
IsSettled Open = ⊥
IsSettled (Done a) = Unit {0}
IsSettled Looped = Unit {0}

-- the open aliases lead to i, or are i
abbrev pub OpenNear : Links → List State → ℕ → Type 0
OpenNear g states i = (j : ℕ) → slice_get states j ≡ Some Open → (j ≡ i) ⊎ Path g j i

-- no alias is open
abbrev pub NoneOpen : List State → Type 0
NoneOpen states = (i : ℕ) → slice_get states i ≡ Some Open → ⊥
