-- Asks in brief; only proofs of bodies need these definitions.
use Rattle.std.specs.Prelude.{◌≡◌, ◌⊎◌, ◌<◌, ℕ, true, List, Option, Some}
use Rattle.std.specs.List.{Contains}
use Rattle.review_compare.specs.declared.cell.Ask.{Ask}
use Rattle.review_compare.specs.declared.cell.AskedGroups.{AskedGroups}
use Rattle.review_compare.specs.declared.pair.Pair.{Pair}
use Rattle.review_compare.specs.Body.AskClasses.{IsAskedFor}
use Rattle.review_compare.specs.Body.Progress.{asking}

-- of the groups before an index, the target is asked for with each of these
abbrev pub HasEachBelow : Pair → List Ask → Option ℕ → AskedGroups → ℕ → Type 0
HasEachBelow p asks target groups n =
    (g : ℕ) → g < n → asking p target (Some g) groups ≡ true → Contains asks (record { target = target; group = Some g })

-- the target is asked for with each of these groups
abbrev pub HasEach : Pair → List Ask → Option ℕ → AskedGroups → Type 0
HasEach p asks target groups = (a : Ask) → IsAskedFor (asking p) target groups a → Contains asks a

-- the asks but those for the target with one of these groups
pub record AreBut (p : Pair) (target : Option ℕ) (groups : AskedGroups) (asks left : List Ask) : Type 0 where
  pub all : (a : Ask) → Contains asks a → Contains left a ⊎ IsAskedFor (asking p) target groups a
  pub only : (a : Ask) → Contains left a → Contains asks a
