-- Where the first found states of a layer are that a block allows, or that are of a user; only proofs of bodies need these definitions.
use Rattle.std.specs.Prelude.{◌≡◌, ◌≤◌, ◌+◌, ◌&&◌, ◌||◌, ℕ, Bool, true, false, if◌then◌else◌, List, All, fold, length, nat_lt, set}
use Rattle.std.specs.Prelude.{slice_get, Option, Some, None}
use Rattle.std.specs.List.{Contains, slice_index_or}
use Rattle.review_roots.specs.declared.firsts.Firsts.{Firsts}
use Rattle.review_roots.specs.declared.host.HostSteps.{HostSteps}
use Rattle.review_roots.specs.declared.layer.Aimed.{Aimed}
use Rattle.review_roots.specs.declared.layer.Layer.{Layer}
use Rattle.review_roots.specs.Body.Found.{IsAimed, TellLike, any_toward}

-- what stands at a place is before the layer, or behind the index
abbrev pub free_if : Option ℕ → ℕ → ℕ → Bool
free_if None start index = false
free_if (Some first) start index = nat_lt first start || nat_lt index first

abbrev pub is_free : List ℕ → ℕ → ℕ → ℕ → Bool
is_free firsts start index key = free_if (slice_get firsts key) start index

-- the index noted at a key, unless one of the layer stands there that is not behind it
abbrev pub with_noted : ℕ → ℕ → List ℕ → ℕ → List ℕ
with_noted start index firsts key =
    if nat_lt key (length firsts) && is_free firsts start index key then set firsts key index else firsts

-- the aim noted for its user
abbrev pub with_user : ℕ → List ℕ → Aimed → List ℕ
with_user start firsts a = with_noted start a.aim.index firsts a.aim.state.user

-- the aim noted for the blocks that raise and allow it
abbrev pub with_blocks : ℕ → List ℕ → Aimed → List ℕ
with_blocks start firsts a = fold (with_noted start a.aim.index) firsts (any_toward a.toward).strong.items

-- what stands at the key, if anything, is in the layer, and not behind the index
abbrev pub IsNoted : List ℕ → ℕ → ℕ → ℕ → Type 0
IsNoted firsts start index key = (first : ℕ) → slice_get firsts key ≡ Some first → (start ≤ first) × (first ≤ index)

-- the first index is not behind the one that is noted for the block, if that is for the host
abbrev pub IsBounded : List Bool → List ℕ → ℕ → ℕ → ℕ → Type 0
IsBounded on firsts start first key =
    slice_index_or on key false ≡ true → (i : ℕ) → IsNoted firsts start i key → first ≤ i

-- the aim is noted for its user, and for each block that raises and allows it
pub record AreNoted (firsts : Firsts) (start : ℕ) (a : Aimed) : Type 0 where
  pub user : IsNoted firsts.users.items start a.aim.index a.aim.state.user
  pub blocks : (k : ℕ) → Contains (any_toward a.toward).strong.items k → IsNoted firsts.blocks.items start a.aim.index k

-- the aims are those of the found states from this index on
abbrev pub StandInOrder : ℕ → List Aimed → Type 0
StandInOrder start aims = (k : ℕ) (a : Aimed) → slice_get aims k ≡ Some a → a.aim.index ≡ start + k

-- what is known of the aims of a layer
pub record IsLayer (h : HostSteps) (firsts : Firsts) (layer : Layer) : Type 0 where
  pub aimed : All (IsAimed h) layer.aims.items
  pub like : TellLike layer.aims.items
  pub order : StandInOrder layer.start layer.aims.items
  pub noted : All (AreNoted firsts layer.start) layer.aims.items
