-- The contents of the indexes behind a directory. Only proofs of bodies use these.
use Rattle.std.specs.Prelude.{◌≡◌, ℕ, Bool, false, not, List, [], ◌∷◌, ◌++◌, map, length, Option, Some, None}
use Rattle.std.specs.Prelude.{slice_get, option_and_then, is_some, codes, if◌then◌else◌}
use Rattle.sudo_match.specs.declared.people.Person.{Person}
use Rattle.sudo_match.specs.declared.people.Group.{Group}
use Rattle.sudo_match.specs.declared.people.Machine.{Machine}
use Rattle.sudo_base.specs.Body.Indexes.{IndexesRows}
use Rattle.sudo_base.specs.NameIndices.{index_of}
use Rattle.sudo_match.specs.declared.fault.DirFault.{DirFault}
use Rattle.sudo_match.specs.declared.positions.GroupPosition.{GroupPosition}
use Rattle.sudo_match.specs.Class.{lower_text}
use Rattle.sudo_match.specs.KnownRows.{first_clash, groups_of, or_else, ungrouped_fault, root_fault, directory_fault}

-- no row clashes with an earlier one, and each name has the index of the first row that has it
pub record AreApart {A : Type 0} (clashes : A → A → Bool) (key : A → List ℕ) (rows : List A) (names : List (List ℕ × ℕ)) : Type 0 where
  pub apart : first_clash clashes rows ≡ None
  pub indexed : IndexesRows key rows (length rows) (index_of names)

-- the names with one more, unless it is already there
abbrev pub with_name : List (List ℕ × ℕ) → List ℕ → ℕ → List (List ℕ × ℕ)
with_name names name at = if is_some (index_of names name) then names else names ++ (name, at) ∷ []

-- the group at a position
abbrev pub group_there : List Person → GroupPosition → Option Group
group_there people position = option_and_then (λ u. slice_get u.groups position.at) (slice_get people position.user)

-- the positions of all groups of all users, in order
abbrev pub ArePositions : List Person → List GroupPosition → Type 0
ArePositions people positions = map (group_there people) positions ≡ map Some (groups_of people)

-- there is an element, and it fails the test
abbrev pub differs : {A : Type 0} → (A → Bool) → Option A → Bool
differs test None = false
differs test (Some x) = not (test x)

-- the first of the two faults that are looked for last
abbrev pub ungrouped_or_root_fault : List Person → Option DirFault
ungrouped_or_root_fault people = or_else (ungrouped_fault people) (root_fault people)

-- the invariant of a directory: its indexes are those of its rows and of root, and the rows have no fault
pub record IsKept (people : List Person) (machines : List Machine) (users hosts groups : List (List ℕ × ℕ))
    (positions : List GroupPosition) (root : ℕ) : Type 0 where
  pub users_indexed : IndexesRows (λ u. u.name) people (length people) (index_of users)
  pub hosts_indexed : IndexesRows (λ m. lower_text m.name) machines (length machines) (index_of hosts)
  pub groups_indexed : IndexesRows (λ g. g.name) (groups_of people) (length (groups_of people)) (index_of groups)
  pub spots_are : ArePositions people positions
  pub faultless : directory_fault people machines ≡ None
  pub root_indexed : index_of users (codes "root") ≡ Some root
