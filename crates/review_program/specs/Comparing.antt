-- The output of a comparison of two policies, and its faults.
use Rattle.std.specs.Prelude.{◌≡◌, ⊤, ℕ, Bool, true, false, if◌then◌else◌, List, [], ◌∷◌, IsSome, Option, None, Some}
use Rattle.std.specs.List.{list_any}
use Rattle.audit_commands.specs.Auditing.{IsDirectory}
use Rattle.sudo_grammar.specs.declared.policy.Policy.{Policy}
use Rattle.sudo_match.specs.KnownRows.{KnownRows, host_named, user_named}
use Rattle.sudo_match.specs.declared.people.Machine.{Machine}
use Rattle.sudo_match.specs.declared.people.Person.{Person}
use Rattle.sudo_verdict.specs.Questions.{looked_up}
use Rattle.review_compare.specs.Differences.{AreDifferences, IsAskedAbout, SameIf, question_at}
use Rattle.review_compare.specs.Table.{source_of, table_text}
use Rattle.review_compare.specs.declared.cell.Cell.{Cell}
use Rattle.review_compare.specs.declared.compared.Compared.{Compared}
use Rattle.review_compare.specs.declared.compared.Compared.TheVariants as compared
use Rattle.review_compare.specs.declared.row.Row.{Row}
use Rattle.review_compare.specs.declared.witness.Witness.{Witness}
use Rattle.review_roots.specs.KnownGroups.{known_groups}
use Rattle.review_commands.specs.Pairing.{BothPass, IsNotPaired, IsPaired, PairInputs}
use Rattle.review_commands.specs.declared.fault.TableFault.{TableFault}
use Rattle.review_commands.specs.declared.fault.TableFault.TheVariants as tables

-- there is a witness
abbrev pub are_shown : List Witness → Bool
are_shown [] = false
are_shown (witness ∷ rest) = true

-- what is found has a record in the table
abbrev pub is_shown : Compared → Bool
is_shown compared.Same = false
is_shown (compared.Differs witnesses) = are_shown witnesses
is_shown (compared.May old new) = true

-- 5 if the table of these rows has a record, otherwise 0
abbrev pub differences_status : List Row → ℕ
differences_status rows = if list_any (λ r. is_shown r.found) rows then 5 else 0

-- the table of the differences of two policies with each known group, for a known user and host, where one is asked about; and
-- the status for it
pub record AreDifferenceRows (person : Option Person) (machine : Option Machine) (old new : Policy) (d : KnownRows) (text : List ℕ)
    (status : ℕ) : Type 0 where
  pub rows : List Row
  pub are : AreDifferences old new d (known_groups d) person machine rows
  pub text_is : text ≡ table_text (source_of old) (source_of new) d (known_groups d) rows
  pub status_is : status ≡ differences_status rows

-- the same for the user and the host of these names, where one is given
pub record AreNamedDifferences (user host : Option (List ℕ)) (old new : Policy) (d : KnownRows) (text : List ℕ) (status : ℕ)
    : Type 0 where
  pub person : Option Person
  pub machine : Option Machine
  pub is_person : looked_up (user_named d) user ≡ Some person
  pub is_machine : looked_up (host_named d) host ≡ Some machine
  pub are : AreDifferenceRows person machine old new d text status

-- where the status is 0, both policies say the same to every command in each cell that is asked about, whichever noted conditions
-- hold
abbrev pub QuietSaysSame : Type 0
QuietSaysSame =
    (person : Option Person) (machine : Option Machine) (old new : Policy) (d : KnownRows) (text : List ℕ) (c : Cell) →
    AreDifferenceRows person machine old new d text 0 → IsAskedAbout d (known_groups d) person machine c →
    SameIf old new (question_at d (known_groups d) c)

-- the output of a comparison: the table, and the lines of the cautions on each policy
pub record IsComparison (given : PairInputs) (user host : Option (List ℕ)) (text notice : List ℕ) (status : ℕ) : Type 0 where
  pub old : Policy
  pub new : Policy
  pub directory : KnownRows
  pub paired : IsPaired given old new directory notice
  pub made : AreNamedDifferences user host old new directory text status

-- the directory of the input has no user of the name that is asked about
pub record PairLacksUser (given : PairInputs) (user : Option (List ℕ)) (name : List ℕ) : Type 0 where
  pub directory : KnownRows
  pub pass : BothPass given
  pub is_directory : IsDirectory given.users given.hosts directory
  pub asked : user ≡ Some name
  pub lacks : user_named directory name ≡ None

-- it has no host of that name; a user that is asked about is known
pub record PairLacksHost (given : PairInputs) (user host : Option (List ℕ)) (name : List ℕ) : Type 0 where
  pub directory : KnownRows
  pub pass : BothPass given
  pub is_directory : IsDirectory given.users given.hosts directory
  pub asked : host ≡ Some name
  pub user_known : IsSome (looked_up (user_named directory) user)
  pub lacks : host_named directory name ≡ None

-- why there is no comparison: there is no pair; or no known user or host has the name that is given
abbrev pub IsNoComparison : PairInputs → Option (List ℕ) → Option (List ℕ) → TableFault → Type 0
IsNoComparison given user host (tables.Policy fault) = IsNotPaired given (tables.Policy fault)
IsNoComparison given user host (tables.Directory fault) = IsNotPaired given (tables.Directory fault)
IsNoComparison given user host (tables.NoSuchUser name) = PairLacksUser given user name
IsNoComparison given user host (tables.NoSuchHost name) = PairLacksHost given user host name
IsNoComparison given user host tables.Memory = ⊤
