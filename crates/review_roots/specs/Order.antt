-- The order of states, and so of chains: of chains that are otherwise alike the first one is given.
use Rattle.std.specs.Prelude.{◌≡◌, ◌<◌, ℕ, Bool, false, List, [], Option, None, Some, slice_get}
use Rattle.std.specs.declared.cmp.Ordering.{Ordering}
use Rattle.std.specs.Ordering.{is_gt, nat_cmp, ordering_then}
use Rattle.std.specs.Cmp.Lexicographic.{slice_cmp}
use Rattle.std.specs.Option.{option_cmp}
use Rattle.sudo_match.specs.declared.people.Person.{Person}
use Rattle.sudo_match.specs.KnownRows.{KnownRows}
use Rattle.review_roots.specs.declared.state.State.{State}

abbrev pub person_name : Option Person → List ℕ
person_name None = []
person_name (Some u) = u.name

-- the name of the known user of an index
abbrev pub user_name : KnownRows → ℕ → List ℕ
user_name d user = person_name (slice_get d.people user)

-- states by the bytes of their users' names; of one user, without an added group first, and then by the order of the added groups
abbrev pub state_cmp : KnownRows → State → State → Ordering
state_cmp d s t =
    ordering_then (slice_cmp nat_cmp (user_name d s.user) (user_name d t.user)) (option_cmp nat_cmp s.added t.added)

-- the first chain goes behind the second: at the first states that differ
abbrev pub is_behind : KnownRows → List State → List State → Bool
is_behind d ss ts = is_gt (slice_cmp (state_cmp d) ss ts)

-- no state goes behind one that follows it
abbrev pub IsInOrder : KnownRows → List State → Type 0
IsInOrder d ss =
    (i k : ℕ) (s t : State) → i < k → slice_get ss i ≡ Some s → slice_get ss k ≡ Some t → is_gt (state_cmp d s t) ≡ false
