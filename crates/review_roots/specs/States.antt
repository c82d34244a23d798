-- Who a user can be on the way to a target: a known user, with at most one added group, since sudo runs a command with the
-- group that is asked for. sudo(8), options -u and -g.
use Rattle.std.specs.Prelude.{ℕ, Bool, not, if◌then◌else◌, ◌==◌, List, [], ◌∷◌, ◌++◌, ◌&&◌, map, flat_map, length, slice_get, Option}
use Rattle.std.specs.Prelude.{Some, None, is_some, option_map}
use Rattle.std.specs.List.{range_with_len}
use Rattle.sudo_grammar.specs.declared.policy.Policy.{Policy}
use Rattle.sudo_match.specs.declared.people.Person.{Person}
use Rattle.sudo_match.specs.declared.people.Group.{Group}
use Rattle.sudo_match.specs.declared.people.Machine.{Machine}
use Rattle.sudo_match.specs.KnownRows.{KnownRows}
use Rattle.review_roots.specs.declared.level.Level.{Level}
use Rattle.review_roots.specs.declared.level.Level.TheVariants as level
use Rattle.review_roots.specs.declared.state.State.{State}
use Rattle.review_roots.specs.declared.given.Given.{Given}
use Rattle.review_roots.specs.declared.given.Counted.{Counted}
use Rattle.review_roots.specs.declared.given.Counted.TheVariants as counted
use Rattle.review_roots.specs.Asked.{given_towards, nothing}
use Rattle.review_roots.specs.Chains.{Steps}

-- the user with the added group, if any, behind its groups
abbrev pub with_added : Person → Option Group → Person
with_added u None = u
with_added u (Some g) = record { name = u.name; uid = u.uid; groups = u.groups ++ g ∷ [] }

-- the added group of an index; none if there is no index, or no such group
abbrev pub group_at : List Group → Option ℕ → Option Group
group_at groups None = None
group_at groups (Some i) = slice_get groups i

-- the user of a state, with the group that is added to it
abbrev pub person_of : KnownRows → List Group → State → Option Person
person_of d groups s = option_map (λ u. with_added u (group_at groups s.added)) (slice_get d.people s.user)

abbrev pub given_between : Policy → KnownRows → Machine → Option Person → Option Person → Option Group → Given
given_between p d m None v g = nothing
given_between p d m (Some u) None g = nothing
given_between p d m (Some u) (Some v) g = given_towards p d m u v g

-- what the step from a state to another one gives: the user of the first, with its added group, asks for the user of the
-- second and for its added group
abbrev pub step_given : Policy → KnownRows → Machine → List Group → State → State → Given
step_given p d m groups s t =
    given_between p d m (person_of d groups s) (slice_get d.people t.user) (group_at groups t.added)

abbrev pub state_with : Option ℕ → ℕ → State
state_with added user = record { user = user; added = added }

-- the user without an added group
abbrev pub is_start : ℕ → State → Bool
is_start user s = (s.user == user) && not (is_some s.added)

-- each user with this added group, if any
abbrev pub states_with : ℕ → Option ℕ → List State
states_with users added = map (state_with added) (range_with_len 0 users)

-- each user without an added group, and with each of the groups
abbrev pub all_states : ℕ → ℕ → List State
all_states users groups =
    states_with users None ++ flat_map (λ i. states_with users (Some i)) (range_with_len 0 groups)

-- the level of what a step gives, where every step counts; where those count that may go without a password; and where only those
-- count that ask for none
abbrev pub level_for : Counted → Given → Level
level_for counted.Any a = a.level
level_for counted.Unasked a = if a.unasked then a.level else level.None
level_for counted.Free a = if a.free then a.level else level.None

-- the steps on a host towards a user that count
abbrev pub steps_to : Policy → KnownRows → Machine → List Group → ℕ → Counted → Steps State
steps_to p d m groups target k = record {
  states = all_states (length d.people) (length groups);
  level = λ s t. level_for k (step_given p d m groups s t);
  goal = λ s. s.user == target;
}
