-- Who can become a target on a host, and who cannot. sudo(8), options -u and -g.
use Rattle.std.specs.Prelude.{◌≡◌, ◌<◌, ◌⊎◌, ℕ, Bool, true, false, ◌||◌, ◌==◌, List, [], ◌∷◌, All, length, map, slice_get, Option, Some}
use Rattle.std.specs.Prelude.{None, is_some}
use Rattle.std.specs.List.{AllByRecursion, Contains}
use Rattle.sudo_match.specs.declared.people.Person.{Person}
use Rattle.review_roots.specs.declared.host.HostSteps.{HostSteps}
use Rattle.review_roots.specs.declared.level.Level.{Level}
use Rattle.review_roots.specs.declared.roots.Root.{Root}
use Rattle.review_roots.specs.declared.way.Way.{Way}
use Rattle.review_roots.specs.Sought.{any_steps}
use Rattle.review_roots.specs.Chains.{HasNoPath}
use Rattle.review_roots.specs.States.{state_with}
use Rattle.review_roots.specs.Ways.{IsWay}

abbrev pub zero_if_known : Option Person → Bool
zero_if_known None = false
zero_if_known (Some u) = u.uid == 0

-- the user is known and has ID 0
abbrev pub has_zero : HostSteps → ℕ → Bool
has_zero h user = zero_if_known (slice_get h.directory.now.people user)

-- the user is the target, or has ID 0
abbrev pub is_itself : HostSteps → ℕ → ℕ → Bool
is_itself h target user = (user == target) || has_zero h user

abbrev pub IsRootBy : HostSteps → ℕ → Level → ℕ → Option Way → Type 0
IsRootBy h target least user None = is_itself h target user ≡ true
IsRootBy h target least user (Some w) =
    (is_itself h target user ≡ false) × (IsWay h target least (state_with None user) w × (is_some w.by ≡ true))

-- the user can become the target: it is the target, or has ID 0; or the chain that is given leads to the target, and
-- a row that allows its first step is given
abbrev pub IsRoot : HostSteps → ℕ → Level → Root → Type 0
IsRoot h target least r = IsRootBy h target least r.user r.way

-- the root is that of the user
abbrev pub IsRootAt : HostSteps → ℕ → Level → ℕ → Root → Type 0
IsRootAt h target least user r = (r.user ≡ user) × IsRoot h target least r

-- the user cannot: it is not the target, its ID is not 0, and no chain of the level, however long, leads from it to the target
abbrev pub IsNoRoot : HostSteps → ℕ → Level → ℕ → Type 0
IsNoRoot h target least user =
    (is_itself h target user ≡ false) × HasNoPath (any_steps h target) least (state_with None user)

-- each number is less than the next one
abbrev pub IsIncreasing : List ℕ → Type 0
IsIncreasing [] = Unit {0}
IsIncreasing (x ∷ xs) = AllByRecursion (λ y. x < y) xs × IsIncreasing xs

-- the users that can become the target, in the order of the directory; each known user that is not among them cannot
pub record AreRoots (h : HostSteps) (target : ℕ) (least : Level) (roots : List Root) : Type 0 where
  pub right : All (IsRoot h target least) roots
  pub known : All (λ r. r.user < length h.directory.now.people) roots
  pub ordered : IsIncreasing (map (λ r. r.user) roots)
  pub complete : (user : ℕ) → user < length h.directory.now.people → Contains (map (λ r. r.user) roots) user
      ⊎ IsNoRoot h target least user
