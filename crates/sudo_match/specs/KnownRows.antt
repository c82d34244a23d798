-- The users, groups and hosts that a directory knows, as in passwd(5), group(5) and hosts(5), and the faults of its rows.
use Rattle.std.specs.Prelude.{ℕ, Bool, true, false, not, ◌&&◌, ◌||◌, ◌==◌, if◌then◌else◌, List, [], ◌∷◌, Option, Some}
use Rattle.std.specs.Prelude.{None, find, flat_map, option_map, option_and_then, take, length, slice_get, bytes_eq}
use Rattle.std.specs.Prelude.{codes, ◌≡◌, ◌⊎◌}
use Rattle.std.specs.List.{list_any, range_with_len}
use Rattle.sudo_match.specs.declared.people.Person.{Person}
use Rattle.sudo_match.specs.declared.people.Group.{Group}
use Rattle.sudo_match.specs.declared.people.Machine.{Machine}
use Rattle.sudo_match.specs.declared.fault.DirFault.{DirFault}
use Rattle.sudo_match.specs.declared.fault.DirFault.TheVariants.{UserTwice, HostTwice, GroupClash, NoGroup, NoRoot, Memory}
use Rattle.sudo_match.specs.Class.{lower_text}

-- the rows from which a directory was created
pub record KnownRows : Type 0 where
  pub people : List Person
  pub machines : List Machine

unfoldable pub user_named : KnownRows → List ℕ → Option Person
user_named d name = find (λ u. bytes_eq u.name name) d.people

-- the host of this name, ignoring ASCII case
unfoldable pub host_named : KnownRows → List ℕ → Option Machine
host_named d name = find (λ m. bytes_eq (lower_text m.name) (lower_text name)) d.machines

-- all groups of all users, in order
abbrev pub groups_of : List Person → List Group
groups_of people = flat_map (λ u. u.groups) people

-- the group of this name, if some user has it
unfoldable pub group_named : KnownRows → List ℕ → Option Group
group_named d name = find (λ g. bytes_eq g.name name) (groups_of d.people)

-- there is an element, and it clashes with one of these
abbrev pub clashes_with : {A : Type 0} → (A → A → Bool) → List A → Option A → Bool
clashes_with clashes others None = false
clashes_with clashes others (Some x) = list_any (λ y. clashes y x) others

-- the element at an index clashes with one before it
abbrev pub clashes_at : {A : Type 0} → (A → A → Bool) → List A → ℕ → Bool
clashes_at clashes xs i = clashes_with clashes (take i xs) (slice_get xs i)

-- the first element that clashes with one before it
unfoldable pub first_clash : {A : Type 0} → (A → A → Bool) → List A → Option A
first_clash clashes xs = option_and_then (slice_get xs) (find (clashes_at clashes xs) (range_with_len 0 (length xs)))

abbrev pub same_user : Person → Person → Bool
same_user a b = bytes_eq a.name b.name

abbrev pub same_host : Machine → Machine → Bool
same_host a b = bytes_eq (lower_text a.name) (lower_text b.name)

-- one name with two IDs, or one ID with two names
abbrev pub groups_clash : Group → Group → Bool
groups_clash a b = (bytes_eq a.name b.name && not (a.gid == b.gid)) || ((a.gid == b.gid) && not (bytes_eq a.name b.name))

abbrev pub is_no_group : List Group → Bool
is_no_group [] = true
is_no_group (g ∷ gs) = false

-- the first value, or the second if there is no first
abbrev pub or_else : {A : Type 0} → Option A → Option A → Option A
or_else (Some x) other = Some x
or_else None other = other

-- the first user whose name an earlier one has
abbrev pub user_fault : List Person → Option DirFault
user_fault people = option_map (λ u. UserTwice u.name) (first_clash same_user people)

-- the first host whose name an earlier one has
abbrev pub host_fault : List Machine → Option DirFault
host_fault machines = option_map (λ m. HostTwice m.name) (first_clash same_host machines)

-- the first group, of all groups of all users, that clashes with an earlier one
abbrev pub group_fault : List Person → Option DirFault
group_fault people = option_map (λ g. GroupClash g.name) (first_clash groups_clash (groups_of people))

-- the first user without a group
abbrev pub ungrouped_fault : List Person → Option DirFault
ungrouped_fault people = option_map (λ u. NoGroup u.name) (find (λ u. is_no_group u.groups) people)

abbrev pub root_fault : List Person → Option DirFault
root_fault people = if list_any (λ u. bytes_eq u.name (codes "root")) people then None else Some NoRoot

-- the first fault of the rows, in the order of the five kinds; each but `NoRoot` names the first row that shows it
unfoldable pub directory_fault : List Person → List Machine → Option DirFault
directory_fault people machines =
    or_else (user_fault people) (or_else (host_fault machines)
    (or_else (group_fault people) (or_else (ungrouped_fault people) (root_fault people))))

-- the given fault, if there is one, or an allocation failure
abbrev pub IsDirectoryFault : Option DirFault → DirFault → Type 0
IsDirectoryFault wanted fault = (fault ≡ Memory) ⊎ (wanted ≡ Some fault)
