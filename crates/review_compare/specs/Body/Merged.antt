-- Rows that become one; only proofs of bodies need these definitions.
use Rattle.std.specs.Prelude.{◌≡◌, ◌⊎◌, ℕ, Bool, true, ◌&&◌, ◌||◌, ◌==◌, List, [], ◌∷◌, Option}
use Rattle.std.specs.List.{list_any}
use Rattle.review_compare.specs.declared.ask_class.AskedWith.{AskedWith}
use Rattle.review_compare.specs.declared.cell.Ask.{Ask}
use Rattle.review_compare.specs.declared.cell.AskedTargets.{AskedTargets}
use Rattle.review_compare.specs.declared.cell.Cell.{Cell}
use Rattle.review_compare.specs.declared.compared.Compared.{Compared}
use Rattle.review_compare.specs.declared.row.Dimension.{Dimension}
use Rattle.review_compare.specs.declared.row.Dimension.TheVariants as dimension
use Rattle.review_compare.specs.declared.row.Row.{Row}
use Rattle.review_compare.specs.Differences.{Asking, Finds, has_cell, same_number, targets_of}
use Rattle.review_compare.specs.Body.Comparisons.{IsCopy}

abbrev pub same_cell : Cell → Cell → Bool
same_cell c d =
    ((c.user == d.user) && (c.host == d.host)) && (same_number d.ask.target c.ask.target && same_number d.ask.group c.ask.group)

-- the target is one of these
abbrev pub has_target : List AskedTargets → Option ℕ → Bool
has_target targets t = list_any (same_number t) (targets_of targets)

-- the rows differ in this alone
abbrev pub AreLike : Dimension → Row → Row → Type 0
AreLike dimension.Users r s = (r.hosts ≡ s.hosts) × (r.targets ≡ s.targets) × (r.groups ≡ s.groups) × (r.found ≡ s.found)
AreLike dimension.Targets r s = (r.users ≡ s.users) × (r.hosts ≡ s.hosts) × (r.groups ≡ s.groups) × (r.found ≡ s.found)
AreLike dimension.Groups r s = (r.users ≡ s.users) × (r.hosts ≡ s.hosts) × (r.targets ≡ s.targets) × (r.found ≡ s.found)

-- the host is one of these
abbrev pub is_among : List ℕ → ℕ → Bool
is_among hosts host = list_any (λ m. m == host) hosts

-- a cell of the user on one of the hosts, with one of these asks
abbrev pub IsOnAmong : ℕ → List ℕ → (Ask → Type 0) → Cell → Type 0
IsOnAmong user hosts asked c = (c.user ≡ user) × (is_among hosts c.host ≡ true) × asked c.ask

-- the row has the cells of both, of which the same is found
pub record IsJoined (r s t : Row) : Type 0 where
  pub cells : (asks : Asking) (c : Cell) → has_cell asks t c ≡ (has_cell asks r c || has_cell asks s c)
  pub first : t.found ≡ r.found
  pub second : t.found ≡ s.found

-- the row of the targets with a group, for the user on the hosts
pub record IsRowOf (user : ℕ) (hosts : List ℕ) (w : AskedWith) (f : Compared) (r : Row) : Type 0 where
  pub users : r.users ≡ user ∷ []
  pub hosts_are : r.hosts ≡ hosts
  pub targets : r.targets ≡ w.targets.items
  pub groups : r.groups ≡ w.groups ∷ []
  pub found : r.found ≡ f

-- the rows with what is found for the user on the hosts, for some asks
pub record AddsFound (asks : Asking) (old : List Row) (user : ℕ) (hosts : List ℕ) (asked : Ask → Type 0) (found : Compared)
    (new : List Row) : Type 0 where
  pub kept : (c : Cell) (f : Compared) → Finds asks old c f → Finds asks new c f
  pub added : (c : Cell) → IsOnAmong user hosts asked c → (f : Compared) × Finds asks new c f
  pub only : (c : Cell) (f : Compared) → Finds asks new c f → Finds asks old c f ⊎ (IsOnAmong user hosts asked c × IsCopy found f)

-- the row with its targets in another order
pub record IsOrdered (r s : Row) : Type 0 where
  pub users : s.users ≡ r.users
  pub hosts : s.hosts ≡ r.hosts
  pub targets : (t : Option ℕ) → has_target s.targets t ≡ has_target r.targets t
  pub groups : s.groups ≡ r.groups
  pub found : s.found ≡ r.found

-- each of the rows with its targets in another order
abbrev pub AreOrdered : List Row → List Row → Type 0
AreOrdered [] [] = Unit {0}
AreOrdered (r ∷ rows) (s ∷ ordered) = IsOrdered r s × AreOrdered rows ordered
AreOrdered _ _ = ⊥

-- the rows with a further one: what each found, and no more
pub record Absorbs (old : List Row) (row : Row) (new : List Row) : Type 0 where
  pub kept : (asks : Asking) (c : Cell) (f : Compared) → Finds asks old c f → Finds asks new c f
  pub added : (asks : Asking) (c : Cell) → has_cell asks row c ≡ true → Finds asks new c row.found
  pub only : (asks : Asking) (c : Cell) (f : Compared) → Finds asks new c f →
      Finds asks old c f ⊎ ((has_cell asks row c ≡ true) × (row.found ≡ f))

-- the rows with further ones
pub record AbsorbsAll (old more new : List Row) : Type 0 where
  pub kept : (asks : Asking) (c : Cell) (f : Compared) → Finds asks old c f → Finds asks new c f
  pub added : (asks : Asking) (c : Cell) (f : Compared) → Finds asks more c f → Finds asks new c f
  pub only : (asks : Asking) (c : Cell) (f : Compared) → Finds asks new c f → Finds asks old c f ⊎ Finds asks more c f

-- the rows with their targets in another order, and then some of them as one
pub record AreMerged (rows new : List Row) : Type 0 where
  pub ordered : List Row
  pub are_ordered : AreOrdered rows ordered
  pub are_grouped : AbsorbsAll [] ordered new
