-- States that stand for all others, since the groups that no list names are alike to a user who has both or neither; only proofs
-- of bodies need these definitions.
use Rattle.std.specs.Prelude.{◌≡◌, ◌<◌, ◌⊎◌, ℕ, Bool, false, true, not, List, [], ◌∷◌, ◌++◌, All, find, flat_map, length, map, slice_get}
use Rattle.std.specs.Prelude.{Option, Some, None, if◌then◌else◌, option_copied}
use Rattle.std.specs.List.{range_with_len, Contains}
use Rattle.std.specs.Ordering.{is_gt}
use Rattle.sudo_grammar.specs.declared.policy.Policy.{Policy}
use Rattle.sudo_match.specs.declared.people.Group.{Group}
use Rattle.sudo_match.specs.declared.people.Person.{Person}
use Rattle.sudo_match.specs.KnownRows.{KnownRows}
use Rattle.sudo_verdict.specs.RunasForms.{has_group}
use Rattle.review_roots.specs.declared.block.Block.{Block}
use Rattle.review_roots.specs.declared.cut.Cut.{Cut}
use Rattle.review_roots.specs.declared.unnamed.SplitGroups.{SplitGroups}
use Rattle.review_roots.specs.declared.state.State.{State}
use Rattle.review_roots.specs.Order.{state_cmp}
use Rattle.review_roots.specs.States.{all_states, group_at, state_with, states_with}
use Rattle.review_roots.specs.Body.Deciding.{is_called}
use Rattle.review_roots.specs.Body.Unnamed.{AreGroupIds, AreIds, is_unnamed, named_indices, unnamed_indices}

-- ---- States that are alike

-- both groups are unnamed, and the user has both or neither
pub record AreBothUnnamed (ids : List ℕ) (u : Person) (a b : Option Group) : Type 0 where
  pub one : Group
  pub other : Group
  pub is_one : a ≡ Some one
  pub is_other : b ≡ Some other
  pub one_unnamed : is_unnamed ids one ≡ true
  pub other_unnamed : is_unnamed ids other ≡ true
  pub has : has_group u one ≡ has_group u other

-- the added groups are the same, or alike to the user
abbrev pub IsAlike : List ℕ → Person → Option Group → Option Group → Type 0
IsAlike ids u a b = (a ≡ b) ⊎ AreBothUnnamed ids u a b

-- the states are of one user, and their added groups are alike to it, by the IDs for it
abbrev pub AreAlike : KnownRows → List Group → (Person → List ℕ) → State → State → Type 0
AreAlike d groups ids s t =
    (s.user ≡ t.user)
    × ((u : Person) → slice_get d.people s.user ≡ Some u → IsAlike (ids u) u (group_at groups s.added) (group_at groups t.added))

-- ---- States that are kept

-- the user has the group at an index
abbrev pub has_if : Person → Option Group → Bool
has_if u None = false
has_if u (Some g) = has_group u g

abbrev pub has_at : Person → List Group → ℕ → Bool
has_at u groups i = has_if u (slice_get groups i)

abbrev pub if_any : Option ℕ → List ℕ
if_any None = []
if_any (Some i) = i ∷ []

-- of the added groups of a user, by their indices: each that is named; and, of those that are not, the first that the user has
-- and the first that it lacks
abbrev pub kept_groups : Person → List Group → List ℕ → List ℕ → List ℕ
kept_groups u groups named others =
    named ++ (if_any (find (has_at u groups) others) ++ if_any (find (λ i. not (has_at u groups i)) others))

abbrev pub states_by : ℕ → List ℕ → List State
states_by user indices = map (λ i. state_with (Some i) user) indices

abbrev pub kept_if : List Group → (Person → List ℕ) → (Person → List ℕ) → ℕ → Option Person → List State
kept_if groups named others user None = []
kept_if groups named others user (Some u) = states_by user (kept_groups u groups (named u) (others u))

-- the states of one user with an added group that are kept
abbrev pub kept_at : KnownRows → List Group → (Person → List ℕ) → (Person → List ℕ) → ℕ → List State
kept_at d groups named others user = kept_if groups named others user (slice_get d.people user)

-- each user without an added group, and with those groups that are kept
abbrev pub kept_by : KnownRows → List Group → (Person → List ℕ) → (Person → List ℕ) → List State
kept_by d groups named others =
    states_with (length d.people) None ++ flat_map (kept_at d groups named others) (range_with_len 0 (length d.people))

-- the same, where the groups with one of the IDs for a user are those that are named
abbrev pub kept_states : KnownRows → List Group → (Person → List ℕ) → List State
kept_states d groups ids =
    kept_by d groups (λ u. named_indices (ids u) groups (length groups)) (λ u. unnamed_indices (ids u) groups (length groups))

-- the groups for a user that are named, and those that are not, where they are split for the user of the name, and for the others
abbrev pub named_for : Option (List ℕ) → SplitGroups → SplitGroups → Person → List ℕ
named_for name own others u = if is_called name u then own.named.items else others.named.items

abbrev pub unnamed_for : Option (List ℕ) → SplitGroups → SplitGroups → Person → List ℕ
unnamed_for name own others u = if is_called name u then own.unnamed.items else others.unnamed.items

-- the IDs for a user, by a cut
abbrev pub ids_by : Cut → Person → List ℕ
ids_by c u = if is_called (option_copied c.name) u then c.own_ids.items else c.ids.items

-- no list of the blocks that decide for a user names a group that has none of the IDs for it; nor does a list of groups of theirs name one
-- that has none of the IDs for another user
pub record AreUnnamed (p : Policy) (bs : Person → List Block) (groups : List Group) (ids : Person → List ℕ) : Type 0 where
  pub own : (u : Person) → AreIds p (bs u) groups (ids u)
  pub others : (u v : Person) → AreGroupIds p (bs u) groups (ids v)

-- the states are among all, each other one is alike to one of them for the blocks that decide for its user, which does not go behind it,
-- and each user without an added group is there
pub record AreKept (p : Policy) (bs : Person → List Block) (d : KnownRows) (groups : List Group) (kept : List State) : Type 0 where
  pub ids : Person → List ℕ
  pub unnamed : AreUnnamed p bs groups ids
  pub inside : All (Contains (all_states (length d.people) (length groups))) kept
  pub covers : (s : State) → Contains (all_states (length d.people) (length groups)) s
      → (t : State) × (Contains kept t × (AreAlike d groups ids s t × (is_gt (state_cmp d t s) ≡ false)))
  pub starts : (user : ℕ) → user < length d.people → Contains kept (state_with None user)
