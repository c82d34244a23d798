-- The cells of two policies, and the rows of the table of their differences.
use Rattle.std.specs.Prelude.{◌≡◌, ◌⊎◌, ℕ, ◌-◌, Bool, true, false, not, ◌&&◌, ◌==◌, List, [], ◌∷◌, flat_map, length, map}
use Rattle.std.specs.Prelude.{bytes_eq, slice_get, Option, Some, None}
use Rattle.std.specs.List.{list_any, range_with_len, Contains}
use Rattle.sudo_grammar.specs.declared.policy.Policy.{Policy}
use Rattle.sudo_match.specs.declared.people.Group.{Group}
use Rattle.sudo_match.specs.declared.people.Machine.{Machine}
use Rattle.sudo_match.specs.declared.people.Person.{Person}
use Rattle.sudo_match.specs.KnownRows.{KnownRows}
use Rattle.sudo_verdict.specs.Questions.{Question, question_as}
use Rattle.sudo_verdict.specs.RunasForms.{has_group}
use Rattle.review_compare.specs.declared.cell.Ask.{Ask}
use Rattle.review_compare.specs.declared.cell.AskedGroups.{AskedGroups}
use Rattle.review_compare.specs.declared.cell.AskedGroups.TheVariants as which
use Rattle.review_compare.specs.declared.cell.AskedTargets.{AskedTargets}
use Rattle.review_compare.specs.declared.cell.AskedTargets.TheVariants as who
use Rattle.review_compare.specs.declared.cell.Cell.{Cell}
use Rattle.review_compare.specs.declared.compared.Compared.{Compared}
use Rattle.review_compare.specs.declared.row.Row.{Row}
use Rattle.review_compare.specs.Cells.{SaySame, deciders}
use Rattle.review_compare.specs.Witnesses.{IsCompared}

-- ---- Cells

abbrev pub known_at : {X : Type 0} → List X → Option ℕ → Option X
known_at xs None = None
known_at xs (Some i) = slice_get xs i

-- no target, and each known user; no group, and each of the groups
abbrev pub each_or_none : ℕ → List (Option ℕ)
each_or_none n = None ∷ map (λ i. Some i) (range_with_len 0 n)

abbrev pub asks_with : List (Option ℕ) → Option ℕ → List Ask
asks_with groups t = map (λ g. record { target = t; group = g }) groups

abbrev pub all_asks : KnownRows → List Group → List Ask
all_asks d groups = flat_map (asks_with (each_or_none (length groups))) (each_or_none (length d.people))

abbrev pub question_if : KnownRows → List Group → Ask → Option Person → Option Machine → Option Question
question_if d groups a (Some u) (Some m) = Some (question_as d u m (known_at d.people a.target) (known_at groups a.group))
question_if d groups a _ _ = None

-- what is asked in a cell, if its user and its host are known
abbrev pub question_at : KnownRows → List Group → Cell → Option Question
question_at d groups c = question_if d groups c.ask (slice_get d.people c.user) (slice_get d.machines c.host)

-- ---- Rows

-- whether the target has the group, if both are known
abbrev pub has_if : Option Person → Option Group → Option Bool
has_if (Some t) (Some g) = Some (has_group t g)
has_if _ _ = None

abbrev pub is_exactly : Bool → Option Bool → Bool
is_exactly true (Some has) = has
is_exactly false (Some has) = not has
is_exactly _ None = false

abbrev pub same_number : Option ℕ → Option ℕ → Bool
same_number None None = true
same_number (Some i) (Some j) = i == j
same_number _ _ = false

-- no one or the user at an index; the users from an index up to another one
abbrev pub each_target : AskedTargets → List (Option ℕ)
each_target (who.One target) = target ∷ []
each_target (who.Range first end) = map (λ i. Some i) (range_with_len first (end - first))

-- the targets that are asked for, one by one
abbrev pub targets_of : List AskedTargets → List (Option ℕ)
targets_of targets = flat_map each_target targets

-- which groups a row asks for with a target: whether the group at an index is one of them, if there is any
abbrev pub Asking : Type 0
Asking = Option ℕ → Option ℕ → AskedGroups → Bool

-- none or the one at an index; those that the target has; those that it has not (sudo_verdict, `has_group`: by their IDs)
abbrev pub is_asked : KnownRows → List Group → Asking
is_asked d groups target group (which.One index) = same_number group index
is_asked d groups target group which.Own = is_exactly true (has_if (known_at d.people target) (known_at groups group))
is_asked d groups target group which.Others = is_exactly false (has_if (known_at d.people target) (known_at groups group))

-- the row has the cell: its user, its host and its target are each in the row, and its group is one that the row asks for with that
-- target
abbrev pub has_cell : Asking → Row → Cell → Bool
has_cell asks r c =
    (list_any (λ u. u == c.user) r.users && list_any (λ m. m == c.host) r.hosts)
    && (list_any (same_number c.ask.target) (targets_of r.targets) && list_any (asks c.ask.target c.ask.group) r.groups)

-- a row has the cell, with this finding
abbrev pub Finds : Asking → List Row → Cell → Compared → Type 0
Finds asks [] c f = ⊥
Finds asks (r ∷ rs) c f = ((has_cell asks r c ≡ true) × (r.found ≡ f)) ⊎ Finds asks rs c f

abbrev pub FoundIf : Policy → Policy → Option Question → Compared → Type 0
FoundIf old new None f = Unit {0}
FoundIf old new (Some q) f = IsCompared (deciders old q) (deciders new q) f

-- the finding is right in the cell
abbrev pub IsFound : Policy → Policy → KnownRows → List Group → Cell → Compared → Type 0
IsFound old new d groups c f = FoundIf old new (question_at d groups c) f

abbrev pub SameIf : Policy → Policy → Option Question → Type 0
SameIf old new None = Unit {0}
SameIf old new (Some q) = SaySame old new q

-- both policies say the same to every command of the cell, whichever noted conditions hold, or a row has it
abbrev pub IsDone : Policy → Policy → KnownRows → List Group → List Row → Cell → Type 0
IsDone old new d groups rows c = SameIf old new (question_at d groups c) ⊎ ((f : Compared) × Finds (is_asked d groups) rows c f)

-- ---- The table

-- the user, or the host, is the one that is asked about, if any
abbrev pub is_this_user : Option Person → Person → Bool
is_this_user None u = true
is_this_user (Some v) u = bytes_eq u.name v.name

abbrev pub is_this_host : Option Machine → Machine → Bool
is_this_host None m = true
is_this_host (Some v) m = bytes_eq m.name v.name

abbrev pub is_user_if : Option Person → Option Person → Bool
is_user_if scope None = false
is_user_if scope (Some u) = is_this_user scope u

abbrev pub is_host_if : Option Machine → Option Machine → Bool
is_host_if scope None = false
is_host_if scope (Some m) = is_this_host scope m

-- the cells that are compared: of the known users and hosts that are asked about, with each target and group
pub record IsAskedAbout (d : KnownRows) (groups : List Group) (user : Option Person) (host : Option Machine) (c : Cell) : Type 0 where
  pub is_user : is_user_if user (slice_get d.people c.user) ≡ true
  pub is_host : is_host_if host (slice_get d.machines c.host) ≡ true
  pub is_ask : Contains (all_asks d groups) c.ask

-- what a row says is so in each of its cells; and in a cell without a row both policies say the same to every command, whichever
-- noted conditions hold
pub record AreDifferences (old new : Policy) (d : KnownRows) (groups : List Group) (user : Option Person) (host : Option Machine)
    (rows : List Row) : Type 0 where
  pub right : (c : Cell) (f : Compared) → Finds (is_asked d groups) rows c f → IsFound old new d groups c f
  pub complete : (c : Cell) → IsAskedAbout d groups user host c → IsDone old new d groups rows c
