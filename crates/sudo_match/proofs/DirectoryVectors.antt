-- Worked examples of the faults of a directory's rows, each by computation.
use Rattle.std.proofs.Common.{◌≡◌, ℕ, List, [], ◌∷◌, refl, Some, None}
use Rattle.std.specs.Prelude.{codes}
use Rattle.sudo_match.specs.declared.people.Person.{Person}
use Rattle.sudo_match.specs.declared.people.Group.{Group}
use Rattle.sudo_match.specs.declared.people.Machine.{Machine}
use Rattle.sudo_match.specs.declared.fault.DirFault.TheVariants.{UserTwice, HostTwice, GroupClash, NoGroup, NoRoot}
use Rattle.sudo_match.specs.KnownRows.{first_clash, directory_fault}

abbrev group : List ℕ → ℕ → Group
group name gid = record { name = name; gid = gid }

abbrev user : List ℕ → List Group → Person
user name groups = record { name = name; uid = 0; groups = groups }

abbrev host : List ℕ → Machine
host name = record { name = name; interfaces = [] }

abbrev root : Person
root = user (codes "root") (group (codes "root") 0 ∷ [])

abbrev alice : Person
alice = user (codes "alice") (group (codes "adm") 4 ∷ group (codes "root") 0 ∷ [])

pub no_fault : directory_fault (root ∷ alice ∷ []) (host (codes "web1") ∷ host (codes "web2") ∷ []) ≡ None
unfolding directory_fault first_clash
no_fault = refl

pub user_twice : directory_fault (alice ∷ root ∷ alice ∷ []) (host (codes "web1") ∷ host (codes "WEB1") ∷ []) ≡ Some
    (UserTwice (codes "alice"))
unfolding directory_fault first_clash
user_twice = refl

pub host_twice : directory_fault (alice ∷ root ∷ []) (host (codes "web1") ∷ host (codes "WEB1") ∷ []) ≡ Some (HostTwice (codes "WEB1"))
unfolding directory_fault first_clash
host_twice = refl

-- one name with two IDs, and one ID with two names; a clash comes before a user without a group
pub one_name : directory_fault (user (codes "bob") [] ∷ alice ∷ user (codes "eve") (group (codes "adm") 5 ∷ []) ∷ [])
    [] ≡ Some (GroupClash (codes "adm"))
unfolding directory_fault first_clash
one_name = refl

pub one_id : directory_fault (alice ∷ user (codes "eve") (group (codes "log") 4 ∷ []) ∷ []) [] ≡ Some (GroupClash (codes "log"))
unfolding directory_fault first_clash
one_id = refl

-- a user without a group comes before a missing `root`
pub no_group : directory_fault (alice ∷ user (codes "bob") [] ∷ []) [] ≡ Some (NoGroup (codes "bob"))
unfolding directory_fault first_clash
no_group = refl

pub no_root : directory_fault (alice ∷ []) [] ≡ Some NoRoot
unfolding directory_fault first_clash
no_root = refl
