-- The marking of reached aliases: definitions that only proofs need.
use Rattle.std.specs.Prelude.{◌≡◌, ℕ, ◌+◌, ◌*◌, ◌≤◌, ◌<◌, Bool, true, false, List, [], ◌∷◌, Option, Some, Contains}
use Rattle.std.specs.Prelude.{length, slice_get, if◌then◌else◌, ◌⊎◌}
use Rattle.sudo_policy.specs.Body.Graph.{Links, Edge, Path}

abbrev pub IsMarked : List Bool → ℕ → Type 0
IsMarked marks i = slice_get marks i ≡ Some true

abbrev pub IsUnmarked : List Bool → ℕ → Type 0
IsUnmarked marks i = slice_get marks i ≡ Some false

-- the number of unmarked aliases
abbrev pub unmarked_count : List Bool → ℕ
unmarked_count [] = 0
unmarked_count (m ∷ ms) = (if m then 0 else 1) + unmarked_count ms

-- the aliases to which a row leads are marked in addition, and the new ones are waiting
pub record MarksRow (row : List (Option ℕ)) (old : List Bool) (before : List ℕ) (new : List Bool) (waiting : List ℕ) : Type 0 where
  pub same_length : length new ≡ length old
  pub kept : (i : ℕ) → IsMarked old i → IsMarked new i
  pub all : (i : ℕ) → Contains row (Some i) → IsMarked new i
  pub noted : (i : ℕ) → IsMarked new i → IsMarked old i ⊎ Contains waiting i
  pub still : (i : ℕ) → Contains before i → Contains waiting i
  pub waits : (i : ℕ) → Contains waiting i → Contains before i ⊎ (IsUnmarked old i × Contains row (Some i))
  pub falls : 2 * unmarked_count new + length waiting ≤ 2 * unmarked_count old + length before

-- the marks of these aliases are set, and no other changes
pub record AreSet (mark : Bool) (aliases : List ℕ) (old new : List Bool) : Type 0 where
  pub same_length : length new ≡ length old
  pub those : (i : ℕ) → Contains aliases i → slice_get new i ≡ Some mark
  pub only : (i : ℕ) (m : Bool) → slice_get new i ≡ Some m → (slice_get old i ≡ Some m) ⊎ (Contains aliases i × (m ≡ mark))

-- one or more edges, each to an unmarked alias
pub data PathPast (g : Links) (marks : List Bool) : ℕ → ℕ → Type 0 where
  last : {i j : ℕ} → Edge g i j → IsUnmarked marks j → PathPast g marks i j
  next : {i j k : ℕ} → Edge g i j → IsUnmarked marks j → PathPast g marks j k → PathPast g marks i k

-- an unmarked root is i, or leads to it along unmarked aliases
pub record ReachedPast (g : Links) (roots : List (Option ℕ)) (marks : List Bool) (i : ℕ) : Type 0 where
  pub root : ℕ
  pub among : Contains roots (Some root)
  pub free : IsUnmarked marks root
  pub way : (root ≡ i) ⊎ PathPast g marks root i

-- the reversed links of a row are added
pub record ReversesRow (from : ℕ) (row : List (Option ℕ)) (old new : Links) : Type 0 where
  pub same_length : length new ≡ length old
  pub kept : (i j : ℕ) → Edge old j i → Edge new j i
  pub all : (j : ℕ) → Contains row (Some j) → Edge new j from
  pub only : (i j : ℕ) → Edge new j i → Edge old j i ⊎ ((i ≡ from) × Contains row (Some j))

-- the reversed links of the rows before `upto` have been added
pub record ReversesUpTo (g : Links) (upto : ℕ) (back : Links) : Type 0 where
  pub same_length : length back ≡ length g
  pub all : (i j : ℕ) → i < upto → Edge g i j → Edge back j i
  pub only : (i j : ℕ) → Edge back j i → Edge g i j

-- with an alias that is done, all aliases that it both reaches and is reached from are done
abbrev pub IsClosedOverCycles : Links → List Bool → Type 0
IsClosedOverCycles g done = (i j : ℕ) → IsMarked done i → Path g i j → Path g j i → IsMarked done j

-- among the aliases that are done, exactly those on cycles are marked
pub record DecidesCycles (g : Links) (done cyclic : List Bool) : Type 0 where
  pub done_length : length done ≡ length g
  pub cyclic_length : length cyclic ≡ length g
  pub whole : IsClosedOverCycles g done
  pub sound : (i : ℕ) → IsMarked cyclic i → Path g i i
  pub found : (i : ℕ) → IsMarked done i → Path g i i → IsMarked cyclic i
