-- A chain of steps to a target: its level, the row that allows its first step, and whose passwords it asks for.
-- sudo(8), sudoers(5), "Tag_Spec": a password is asked unless NOPASSWD is in force.
use Rattle.std.specs.Prelude.{◌≡◌, ◌≤◌, ℕ, Bool, true, false, ◌==◌, if◌then◌else◌, List, [], ◌∷◌, All, Option}
use Rattle.std.specs.Prelude.{None, codes, length}
use Rattle.std.specs.List.{Contains}
use Rattle.review_grants.specs.declared.marks.Marks.{Marks}
use Rattle.review_grants.specs.Depends.{joined_marks, unmarked}
use Rattle.review_roots.specs.declared.given.AllowingRow.{AllowingRow}
use Rattle.review_roots.specs.declared.given.Given.{Given}
use Rattle.review_roots.specs.declared.host.HostSteps.{HostSteps}
use Rattle.review_roots.specs.declared.level.Level.{Level}
use Rattle.review_roots.specs.declared.search.Sought.{Sought}
use Rattle.review_roots.specs.declared.state.State.{State}
use Rattle.review_roots.specs.declared.way.Password.{Password}
use Rattle.review_roots.specs.declared.way.Password.TheVariants as password
use Rattle.review_roots.specs.declared.way.Way.{Way}
use Rattle.review_roots.specs.Sought.{any_steps, steps_of}
use Rattle.review_roots.specs.Chains.{HasPath, LeadsAlong, Path}
use Rattle.review_roots.specs.Order.{is_behind}
use Rattle.review_roots.specs.Ranks.{is_at_least}
use Rattle.review_roots.specs.States.{is_start, step_given}

abbrev pub password_name : Password → List ℕ
password_name password.None = codes "none"
password_name password.Maybe = codes "?"
password_name password.Own = codes "own"
password_name password.Other = codes "other"

-- the worse of the two: another user's password, then one's own, then perhaps one
abbrev pub worse : Password → Password → Password
worse password.None q = q
worse password.Maybe password.None = password.Maybe
worse password.Maybe q = q
worse password.Own password.Other = password.Other
worse password.Own _ = password.Own
worse password.Other q = password.Other

-- whose password a step asks for: nobody's, if it asks for none; perhaps one, if some commands may go without; otherwise one's own, or
-- another user's
abbrev pub asked_by : Given → Bool → Password
asked_by a own =
    if a.free then password.None
    else (if a.unasked then password.Maybe else (if own then password.Own else password.Other))

-- of a step from a state, in a chain that begins with the user: that of the user from whom it leads
abbrev pub step_password : Given → ℕ → State → Password
step_password a user from = asked_by a (from.user == user)

-- what a step on the host gives
abbrev pub step_on : HostSteps → State → State → Given
step_on h s t = step_given h.checked.now h.directory.now h.host.now h.groups.now s t

-- what the steps of a chain from a state ask for, where those from these states ask for one's own: the worst that one of them does
abbrev pub worst_along : HostSteps → (State → Bool) → State → List State → Password
worst_along h own s [] = password.None
worst_along h own s (t ∷ ts) = worse (asked_by (step_on h s t) (own s)) (worst_along h own t ts)

-- whose passwords the steps of a chain from a state ask for
abbrev pub password_along : HostSteps → ℕ → State → List State → Password
password_along h user s ts = worst_along h (λ t. t.user == user) s ts

-- the last row that allows the first step of a chain
abbrev pub first_row : HostSteps → State → List State → Option AllowingRow
first_row h s [] = None
first_row h s (t ∷ ts) = (step_on h s t).by

-- which notes the steps of a chain from a state depend on
abbrev pub marks_along : HostSteps → State → List State → Marks
marks_along h s [] = unmarked
marks_along h s (t ∷ ts) = joined_marks (step_on h s t).marks (marks_along h t ts)

-- the passwords in their order, the least first: none, perhaps one, one's own, another user's
abbrev pub password_rank : Password → ℕ
password_rank password.None = 0
password_rank password.Maybe = 1
password_rank password.Own = 2
password_rank password.Other = 3

-- how much a chain of the user asks for: nothing; perhaps a password; one's own as long as no group is added; or more, another's, or
-- one's own again with an added group
abbrev pub cost_along : HostSteps → ℕ → State → List State → ℕ
cost_along h user s ts = password_rank (worst_along h (is_start user) s ts)

-- the chain leads from the state to the target through states; each of its steps has the level or a better one
pub record IsLeading (h : HostSteps) (target : ℕ) (l : Level) (s : State) (ts : List State) : Type 0 where
  pub inside : All (Contains (any_steps h target).states) ts
  pub leads : LeadsAlong (any_steps h target) l s ts

-- of the steps that are sought, the chain leads from the state to the target through states, with its level, and no chain of that
-- level has fewer steps; of those that have no more none goes before it; the row allows the first step, and the password and the
-- notes are the chain's
pub record IsChain (h : HostSteps) (q : Sought) (s : State) (w : Way) : Type 0 where
  pub inside : All (Contains (steps_of h q).states) w.chain.items
  pub leads : LeadsAlong (steps_of h q) w.level s w.chain.items
  pub shortest : (n : ℕ) → Path (steps_of h q) w.level n s → length w.chain.items ≤ n
  pub first : (ts : List State) → All (Contains (steps_of h q).states) ts → LeadsAlong (steps_of h q) w.level s ts
      → length ts ≤ length w.chain.items → is_behind h.directory.now w.chain.items ts ≡ false
  pub by : w.by ≡ first_row h s w.chain.items
  pub password : w.password ≡ password_along h s.user s w.chain.items
  pub marks : w.marks ≡ marks_along h s w.chain.items

-- of all steps, the chain leads from the state to the target through states, with its level, which no chain betters and which is the
-- least asked for or a better one; the row allows the first step, and the password and the notes are the chain's; no chain of its level,
-- however long, asks for less, and none of those that ask for no more has fewer steps; of those that have no more none goes before it
pub record IsWay (h : HostSteps) (target : ℕ) (least : Level) (s : State) (w : Way) : Type 0 where
  pub inside : All (Contains (any_steps h target).states) w.chain.items
  pub leads : LeadsAlong (any_steps h target) w.level s w.chain.items
  pub best : (l : Level) → HasPath (any_steps h target) l s → is_at_least l w.level ≡ true
  pub enough : is_at_least least w.level ≡ true
  pub by : w.by ≡ first_row h s w.chain.items
  pub password : w.password ≡ password_along h s.user s w.chain.items
  pub marks : w.marks ≡ marks_along h s w.chain.items
  pub easiest : (ts : List State) → IsLeading h target w.level s ts
      → cost_along h s.user s w.chain.items ≤ cost_along h s.user s ts
  pub shortest : (ts : List State) → IsLeading h target w.level s ts
      → cost_along h s.user s ts ≤ cost_along h s.user s w.chain.items → length w.chain.items ≤ length ts
  pub first : (ts : List State) → IsLeading h target w.level s ts
      → cost_along h s.user s ts ≤ cost_along h s.user s w.chain.items → length ts ≤ length w.chain.items
      → is_behind h.directory.now w.chain.items ts ≡ false
