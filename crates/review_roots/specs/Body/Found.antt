-- The states that are found to lead to a target, and what is known of those that are left.
use Rattle.std.specs.Prelude.{◌≡◌, ◌<◌, ◌≤◌, ◌+◌, ◌++◌, ◌⊎◌, ◌&&◌, ◌||◌, ◌==◌, ℕ, Bool, true, false, not, if◌then◌else◌, is_some, List, All}
use Rattle.std.specs.Prelude.{[], ◌∷◌, Option, Some, None, drop, filter, get_or, length, map, nat_lt, set, slice_get, take}
use Rattle.std.specs.Ordering.{is_gt}
use Rattle.std.specs.List.{Contains, filter_map}
use Rattle.review_roots.specs.declared.level.Level.{Level}
use Rattle.review_roots.specs.declared.level.Level.TheVariants as level
use Rattle.review_roots.specs.declared.given.Counted.{Counted}
use Rattle.review_roots.specs.declared.given.Counted.TheVariants as counted
use Rattle.review_roots.specs.declared.host.HostSteps.{HostSteps}
use Rattle.review_roots.specs.declared.candidate.Candidate.{Candidate}
use Rattle.sudo_match.specs.KnownRows.{KnownRows}
use Rattle.review_roots.specs.declared.layer.Aimed.{Aimed}
use Rattle.review_roots.specs.declared.layer.AnyToward.{AnyToward}
use Rattle.review_roots.specs.declared.layer.AnyToward.TheVariants as toward
use Rattle.review_roots.specs.declared.search.Aim.{Aim}
use Rattle.review_roots.specs.declared.toward.Toward.{Toward}
use Rattle.review_roots.specs.declared.chains.Chains.{Chains}
use Rattle.review_roots.specs.declared.chains.Levels.{Levels}
use Rattle.review_roots.specs.declared.search.Found.{Found}
use Rattle.review_roots.specs.declared.search.Sought.{Sought}
use Rattle.review_roots.specs.declared.search.Reach.{Reach}
use Rattle.review_roots.specs.declared.state.State.{State}
use Rattle.review_roots.specs.Body.Candidates.{Qualifies, is_heard, states_of}
use Rattle.review_roots.specs.Body.May.{may_count}
use Rattle.review_roots.specs.Body.Towards.{HasStrong, IsToward}
use Rattle.review_roots.specs.Order.{IsInOrder, state_cmp}
use Rattle.review_roots.specs.Sought.{any_steps, free_steps, steps_of, unasked_steps}
use Rattle.review_roots.specs.Chains.{Steps, Path, HasPath, HasNoPath}
use Rattle.review_roots.specs.Ranks.{rank, is_at_least}
use Rattle.review_roots.specs.States.{is_start, level_for, state_with, step_given}
use Rattle.review_roots.specs.Asked.{nothing}
use Rattle.review_roots.specs.Ways.{step_on}

-- the steps on the host that are sought, between the states that are kept
abbrev pub kept_steps : HostSteps → Sought → Steps State
kept_steps h q = record { states = h.states.now; level = (steps_of h q).level; goal = (steps_of h q).goal }

-- there is no start at the index; or there is one, or the other holds
abbrev pub starts_or : Option (Option ℕ) → Bool → Bool
starts_or None b = true
starts_or (Some None) b = b
starts_or (Some (Some i)) b = true

-- the state has an added group, or its user has a start
abbrev pub may_start : List (Option ℕ) → State → Bool
may_start starts s = starts_or (slice_get starts s.user) (is_some s.added)

-- no chain of the level or a better one leads from a user without a start
abbrev pub HaveNoChain : HostSteps → ℕ → Level → List (Option ℕ) → Type 0
HaveNoChain h target l starts =
    (user : ℕ) → slice_get starts user ≡ Some None → HasNoPath (any_steps h target) l (state_with None user)

-- few states are kept and listed commands do not count, or a step of the candidate that counts may have the least level
abbrev pub is_counted : HostSteps → Counted → Candidate → Bool
is_counted h k c =
    (h.few && is_at_least level.AllBut h.least)
    || may_count h.on.items h.blocks.now h.least k c.listed.items

-- a chain may begin with the candidate; a block on the host that raises lists it, which is not the target; and where many are left, a
-- step of it that counts may have the least level
abbrev pub is_left : HostSteps → Sought → List (Option ℕ) → Candidate → Bool
is_left h q starts c =
    may_start starts c.state
    && (is_heard h.on.items q.target c && is_counted h q.counted c)

-- the found state leads to the goal by a chain of the level or a better one, and by none of fewer steps
pub record IsFound (g : Steps State) (l : Level) (f : Found) : Type 0 where
  pub inside : Contains g.states f.state
  pub path : HasPath g l f.state
  pub shortest : (n : ℕ) → Path g l n f.state → f.steps ≤ n

-- the first step of a found state: none if it is at the goal; otherwise one of the level to a state that was found before, whose
-- chain has a step less
pub record IsStep (g : Steps State) (l : Level) (found : List Found) (i : ℕ) (f : Found) (next : ℕ) (t : Found) : Type 0 where
  pub there : slice_get found next ≡ Some t
  pub before : next < i
  pub step : is_at_least l (g.level f.state t.state) ≡ true
  pub steps : f.steps ≡ t.steps + 1

abbrev pub IsLinked : Steps State → Level → List Found → ℕ → Found → Option ℕ → Type 0
IsLinked g l found i f None = (g.goal f.state ≡ true) × (f.steps ≡ 0)
IsLinked g l found i f (Some next) = (t : Found) × IsStep g l found i f next t

abbrev pub AreLinked : Steps State → Level → List Found → Type 0
AreLinked g l found = (i : ℕ) (f : Found) → slice_get found i ≡ Some f → IsLinked g l found i f f.next

-- each found state's first step leads to one that was found before
abbrev pub PointBack : List Found → Type 0
PointBack found = (i next : ℕ) (f : Found) → slice_get found i ≡ Some f → f.next ≡ Some next → next < i

-- the found state has what its first step gives; at the goal, nothing
abbrev pub IsGiven : HostSteps → List Found → Found → Option ℕ → Type 0
IsGiven h found f None = f.given ≡ nothing
IsGiven h found f (Some next) =
    (t : Found) × ((slice_get found next ≡ Some t) × (f.given ≡ step_on h f.state t.state))

abbrev pub AreGiven : HostSteps → List Found → Type 0
AreGiven h found = (i : ℕ) (f : Found) → slice_get found i ≡ Some f → IsGiven h found f f.next

abbrev pub found_states : List Found → List State
found_states found = map (λ f. f.state) found

-- whoever of these states is not found has no chain of the level
abbrev pub IsComplete : Steps State → List State → Level → List Found → Type 0
IsComplete g states l found = (s : State) → Contains states s → Contains (found_states found) s ⊎ HasNoPath g l s

-- states that lead to the goal by chains of the level or a better one, each with a shortest one: of these states, all that do
pub record AreFound (g : Steps State) (states : List State) (l : Level) (found : List Found) : Type 0 where
  pub right : All (IsFound g l) found
  pub linked : AreLinked g l found
  pub complete : IsComplete g states l found

-- the first step of a found state leads to the first found state to which one of the level leads
abbrev pub AreFirst : Steps State → Level → List Found → Type 0
AreFirst g l found =
    (i next k : ℕ) (f e : Found) → slice_get found i ≡ Some f → f.next ≡ Some next → k < next → slice_get found k ≡ Some e →
    is_at_least l (g.level f.state e.state) ≡ false

-- of the found states whose chains have as many steps, none goes behind one that was found later
abbrev pub AreSorted : KnownRows → List Found → Type 0
AreSorted d found =
    (i k : ℕ) (f e : Found) → i < k → slice_get found i ≡ Some f → slice_get found k ≡ Some e → f.steps ≡ e.steps →
    is_gt (state_cmp d f.state e.state) ≡ false

-- no found state has a chain of fewer steps than one that was found before
abbrev pub AreRising : List Found → Type 0
AreRising found =
    (i k : ℕ) (f e : Found) → i < k → slice_get found i ≡ Some f → slice_get found k ≡ Some e → f.steps ≤ e.steps

-- each of the found states, which are kept ones, has the first of its shortest chains
pub record AreOrdered (h : HostSteps) (q : Sought) (l : Level) (found : List Found) : Type 0 where
  pub kept : All (λ f. Contains h.states.now f.state) found
  pub first : AreFirst (steps_of h q) l found
  pub rising : AreRising found
  pub sorted : AreSorted h.directory.now found

-- the found state at the index is that of the user without an added group; without an index there is none
abbrev pub IsFoundAt : List Found → ℕ → Option ℕ → Type 0
IsFoundAt found user None = All (λ f. is_start user f.state ≡ false) found
IsFoundAt found user (Some i) = (f : Found) × ((slice_get found i ≡ Some f) × (is_start user f.state ≡ true))

-- all steps towards the target
abbrev pub any_sought : ℕ → Sought
any_sought target = record { target = target; counted = counted.Any }

-- for each user, the index of its found state without an added group, if it is found
abbrev pub AreStarts : List Found → List (Option ℕ) → Type 0
AreStarts found starts = (user : ℕ) → user < length starts → IsFoundAt found user (get_or starts user None)

-- the same of the first n found states
abbrev pub IsFoundBefore : List Found → ℕ → ℕ → Option ℕ → Type 0
IsFoundBefore found n user None = All (λ f. is_start user f.state ≡ false) (take n found)
IsFoundBefore found n user (Some i) = IsFoundAt found user (Some i)

abbrev pub AreStartsBefore : List Found → ℕ → List (Option ℕ) → Type 0
AreStartsBefore found n starts = (user : ℕ) → user < length starts → IsFoundBefore found n user (get_or starts user None)

-- the indices with that of a further found state, if it has no added group
abbrev pub with_start : List (Option ℕ) → State → ℕ → List (Option ℕ)
with_start starts s i = if not (is_some s.added) && nat_lt s.user (length starts) then set starts s.user (Some i) else starts

-- the first steps of each list lead back, and what they give is known; and each list has an index for each user
pub record AreChains (h : HostSteps) (c : Chains) : Type 0 where
  pub any : PointBack c.any.items
  pub any_given : AreGiven h c.any.items
  pub any_starts : AreStarts c.any.items c.any_starts.items
  pub any_users : length c.any_starts.items ≡ length h.directory.now.people
  pub unasked : PointBack c.unasked.items
  pub unasked_given : AreGiven h c.unasked.items
  pub unasked_starts : AreStarts c.unasked.items c.unasked_starts.items
  pub unasked_users : length c.unasked_starts.items ≡ length h.directory.now.people
  pub free : PointBack c.free.items
  pub free_given : AreGiven h c.free.items
  pub free_starts : AreStarts c.free.items c.free_starts.items
  pub free_users : length c.free_starts.items ≡ length h.directory.now.people
  pub turned_starts : AreStarts c.turned.items c.turned_starts.items
  pub turned_users : length c.turned_starts.items ≡ length h.directory.now.people

-- the steps towards the target that may go without a password, and those that ask for none
abbrev pub unasked_sought : ℕ → Sought
unasked_sought target = record { target = target; counted = counted.Unasked }

abbrev pub free_sought : ℕ → Sought
free_sought target = record { target = target; counted = counted.Free }

-- a state at the goal
abbrev pub found_there : State → Found
found_there s = record { state = s; steps = 0; next = None; given = nothing }

-- the step of the candidate to the aim has its level or a better one
abbrev pub reaches : HostSteps → Aim → Candidate → Bool
reaches h aim c =
    is_at_least aim.level
    (level_for aim.counted (step_given h.checked.now h.directory.now h.host.now h.groups.now c.state aim.state))

abbrev pub found_by : HostSteps → Aim → Candidate → Found
found_by h aim c = record { state = c.state; steps = aim.steps; next = Some aim.index; given = step_on h c.state aim.state }

-- a found state as an aim
abbrev pub aim_of : Sought → Level → ℕ → Found → Aim
aim_of q l i f = record { index = i; state = f.state; level = l; counted = q.counted; steps = f.steps + 1 }

-- found states as aims, the first one by this index
abbrev pub aims_from : Sought → Level → ℕ → List Found → List Aim
aims_from q l i [] = []
aims_from q l i (f ∷ fs) = aim_of q l i f ∷ aims_from q l (i + 1) fs

-- the found states from the n-th on as aims
abbrev pub aims_at : Sought → Level → ℕ → List Found → List Aim
aims_at q l n found = aims_from q l n (drop n found)

-- the candidate as it is found by the first of the aims to which it has a step, if it has one
abbrev pub first_of : HostSteps → List Aim → Candidate → Option Found
first_of h [] c = None
first_of h (aim ∷ aims) c = if reaches h aim c then Some (found_by h aim c) else first_of h aims c

-- the candidate has no added group; a chain may begin with it, but none whose steps may all go without a password
abbrev pub is_asked : HostSteps → ℕ → List (Option ℕ) → List (Option ℕ) → Candidate → Bool
is_asked h target starts unasked c =
    not (is_some c.state.added) && (not (is_some (get_or unasked c.state.user None)) && is_left h (any_sought target) starts c)

-- what is found by steps that may go without a password, and behind it each such candidate with a step, of any kind, to one of these, by
-- the first of these steps
abbrev pub AreTurned : HostSteps → ℕ → Level → List (Option ℕ) → List Found → List (Option ℕ) → List Found → Type 0
AreTurned h target l starts unasked unasked_starts turned =
    turned ≡ unasked ++ filter_map (first_of h (aims_at (any_sought target) l 0 unasked))
    (filter (is_asked h target starts unasked_starts) h.candidates.now)

-- the chains of a level to a target, by any steps, by steps that may go without a password, by steps that ask for none, and by steps of
-- which the first one alone asks
pub record ChainsLead (h : HostSteps) (target : ℕ) (l : Level) (c : Chains) : Type 0 where
  pub level : is_at_least h.least l ≡ true
  pub any : AreFound (any_steps h target) h.states.now l c.any.items
  pub unasked : AreFound (unasked_steps h target) h.states.now l c.unasked.items
  pub free : AreFound (free_steps h target) h.states.now l c.free.items
  pub any_order : AreOrdered h (any_sought target) l c.any.items
  pub unasked_order : AreOrdered h (unasked_sought target) l c.unasked.items
  pub free_order : AreOrdered h (free_sought target) l c.free.items
  pub are : AreChains h c
  pub turned : AreTurned h target l c.any_starts.items c.unasked.items c.unasked_starts.items c.turned.items

-- no further state has a chain of a lower level, if one has to be at least of the least; or these are the chains of it
abbrev pub IsLower : HostSteps → ℕ → Level → List Found → Option Chains → Type 0
IsLower h target l above None = is_at_least h.least l ≡ true → IsComplete (any_steps h target) h.states.now l above
IsLower h target l above (Some c) = ChainsLead h target l c

-- what was found at the lower level, and otherwise what was found above
abbrev pub lower_found : List Found → Option Chains → List Found
lower_found above None = above
lower_found above (Some c) = c.any.items

-- the chains of each level
pub record AreLevels (h : HostSteps) (target : ℕ) (x : Levels) : Type 0 where
  pub all : ChainsLead h target level.All x.all
  pub all_but : IsLower h target level.AllBut x.all.any.items x.all_but
  pub listed : IsLower h target level.Listed (lower_found x.all.any.items x.all_but) x.listed

-- no chain of a better level leads from the user
abbrev pub IsBest : HostSteps → ℕ → Level → ℕ → Type 0
IsBest h target l user = (m : Level) → rank l < rank m → HasNoPath (any_steps h target) m (state_with None user)

-- ---- While a search goes on: what is found, and the states that are left

-- no chain of the least level, or of a better one, leads from the state to the goal
abbrev pub IsStuck : Steps State → Level → State → Type 0
IsStuck g least s = (l : Level) → is_at_least least l ≡ true → HasNoPath g l s

abbrev pub HaveNoPath : Steps State → Level → List State → Type 0
HaveNoPath g l left = All (HasNoPath g l) left

-- no step of the level leads from a state that is left to one of the first n found
abbrev pub IsDrawn : Steps State → Level → ℕ → List Found → List State → Type 0
IsDrawn g l n found left =
    All (λ s. (k : ℕ) (f : Found) → k < n → slice_get found k ≡ Some f → is_at_least l (g.level s f.state) ≡ false) left

-- the first n found states have been drawn to; the chains of all others have as many steps, and those of the first ones have fewer;
-- found states and those that are left are in order
pub record IsSearch (d : KnownRows) (g : Steps State) (least l : Level) (n : ℕ) (found : List Found) (left : List State) : Type 0 where
  pub level : is_at_least least l ≡ true
  pub right : All (IsFound g l) found
  pub linked : AreLinked g l found
  pub covered : (s : State) → Contains g.states s → Contains (found_states found) s ⊎ (Contains left s ⊎ IsStuck g least s)
  pub inside : All (Contains g.states) left
  pub away : All (λ s. g.goal s ≡ false) left
  pub drawn : IsDrawn g l n found left
  pub depth : ℕ
  pub before : (i : ℕ) (f : Found) → i < n → slice_get found i ≡ Some f → f.steps < depth
  pub after : (i : ℕ) (f : Found) → n ≤ i → slice_get found i ≡ Some f → f.steps ≡ depth
  pub first : AreFirst g l found
  pub rising : AreRising found
  pub sorted : AreSorted d found
  pub waiting : IsInOrder d left

-- no chain has more steps than states were found before
abbrev pub AreDeep : List Found → Type 0
AreDeep found = (i : ℕ) (f : Found) → slice_get found i ≡ Some f → f.steps ≤ i

-- what is known of the candidate holds on the host
abbrev pub IsCandidate : HostSteps → Candidate → Type 0
IsCandidate h c = Qualifies h.checked.now h.directory.now h.groups.now h.least h.blocks.now c

-- what steps to the state of an aim depend on
abbrev pub any_toward : AnyToward → Toward
any_toward (toward.Known t) = t.now
any_toward (toward.Made t) = t

-- it is what steps to the state depend on
abbrev pub IsTowardOf : HostSteps → State → Toward → Type 0
IsTowardOf h s t = (t.state ≡ s) × IsToward h.checked.now h.directory.now h.groups.now h.blocks.now t.state t

-- the aim has the least level or a better one, and what steps to it depend on is known
pub record IsAimed (h : HostSteps) (a : Aimed) : Type 0 where
  pub level : is_at_least h.least a.aim.level ≡ true
  pub toward : IsTowardOf h a.aim.state (any_toward a.toward)
  pub strong : HasStrong h.least h.blocks.now (any_toward a.toward)

-- the aim is another one of the same user, whose steps the same blocks allow
pub record AreLike (one : Aimed) (aim : Aim) (t : Toward) : Type 0 where
  pub user : one.aim.state.user ≡ aim.state.user
  pub level : one.aim.level ≡ aim.level
  pub counted : one.aim.counted ≡ aim.counted
  pub allowed : (any_toward one.toward).allowed.items ≡ t.allowed.items

-- one of the aims is another one of the same user, whose steps the same blocks allow
abbrev pub HasLike : List Aimed → Aim → Toward → Type 0
HasLike aims aim t = (one : Aimed) × (Contains aims one × AreLike one aim t)

-- each aim that is marked as like an earlier one is like one of these
abbrev pub TellLike : List Aimed → Type 0
TellLike aims =
    (k : ℕ) (a : Aimed) → slice_get aims k ≡ Some a → a.is_like ≡ true →
    (j : ℕ) × (one : Aimed) × (j < k) × (slice_get aims j ≡ Some one) × AreLike one a.aim (any_toward a.toward)

-- the state is not at the goal, and no step of the least level, or of a better one, leads from it
abbrev pub IsMute : Steps State → Level → State → Type 0
IsMute g least s =
    (g.goal s ≡ false) × ((t : State) (l : Level) → is_at_least least l ≡ true → is_at_least l (g.level s t) ≡ false)

-- what the search begins with, among the kept states: those at the goal, and those that are left
pub record IsStartOf (h : HostSteps) (q : Sought) (least : Level) (found : List Found) (left : List Candidate) : Type 0 where
  pub goals : All (λ f. (f.steps ≡ 0) × ((f.next ≡ None) × ((kept_steps h q).goal f.state ≡ true))) found
  pub found_inside : All (λ f. Contains (kept_steps h q).states f.state) found
  pub candidates : All (IsCandidate h) left
  pub inside : All (λ c. Contains (kept_steps h q).states c.state) left
  pub away : All (λ c. (kept_steps h q).goal c.state ≡ false) left
  pub covered : All (λ s. Contains (found_states found) s ⊎ (Contains (states_of left) s ⊎ IsStuck (kept_steps h q) least s))
      (kept_steps h q).states
  pub found_order : IsInOrder h.directory.now (found_states found)
  pub left_order : IsInOrder h.directory.now (states_of left)

-- ---- Searches by any steps, level by level

-- what is found is all that has a chain of its level
abbrev pub IsSpread : HostSteps → ℕ → Reach → Type 0
IsSpread h target s =
    All (IsCandidate h) (map (λ c. c.now) s.left.items)
    × ((l : Level) × IsSearch h.directory.now (kept_steps h (any_sought target)) h.least l (length s.found.items) s.found.items
    (states_of (map (λ c. c.now) s.left.items)))

-- the same of a level that is asked for
pub record IsSpreadAt (h : HostSteps) (target : ℕ) (l : Level) (s : Reach) : Type 0 where
  pub level : is_at_least h.least l ≡ true
  pub spread : IsSpread h target s
  pub given : AreGiven h s.found.items
  pub found : AreFound (any_steps h target) h.states.now l s.found.items
  pub order : AreOrdered h (any_sought target) l s.found.items

abbrev pub IsSomeSpread : HostSteps → ℕ → Level → Option Reach → Type 0
IsSomeSpread h target l None = Unit {0}
IsSomeSpread h target l (Some s) = IsSpreadAt h target l s

-- no further state has a chain of the lower level, if that is asked for; or all are found that have one
abbrev pub IsLowerSpread : HostSteps → ℕ → Level → List Found → Option Reach → Type 0
IsLowerSpread h target l above None = is_at_least h.least l ≡ true → IsComplete (any_steps h target) h.states.now l above
IsLowerSpread h target l above (Some s) = IsSpreadAt h target l s

abbrev pub lower_spread : List Found → Option Reach → List Found
lower_spread above None = above
lower_spread above (Some s) = s.found.items
