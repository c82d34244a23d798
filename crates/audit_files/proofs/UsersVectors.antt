-- Worked examples of users files, each by computation.
use Rattle.std.proofs.Common.{◌≡◌, ℕ, List, [], ◌∷◌, refl, Ok, Err}
use Rattle.std.specs.Prelude.{codes}
use Rattle.sudo_match.specs.declared.people.Person.{Person}
use Rattle.sudo_match.specs.declared.people.Group.{Group}
use Rattle.audit_files.specs.declared.fault.FileFault.TheVariants.{BadRow, Header}
use Rattle.csv.specs.Machine.{next_record}
use Rattle.csv.specs.Reading.{records_from, strip_bom}
use Rattle.audit_files.specs.Users.{people}

abbrev group : List ℕ → ℕ → Group
group name gid = record { name = name; gid = gid }

abbrev user : List ℕ → ℕ → List Group → Person
user name uid groups = record { name = name; uid = uid; groups = groups }

-- one row a user, and the same users by their memberships
pub by_user : people (codes "user,uid,groups\nb,2,\na,1,g:7 h:8\n") ≡ Ok (user (codes "b") 2 [] ∷ user (codes "a") 1
    (group (codes "g") 7 ∷ group (codes "h") 8 ∷ []) ∷ [])
unfolding records_from strip_bom next_record
by_user = refl

pub by_membership : people (codes "user,uid,gid,group\nb,2,,\na,1,7,g\na,1,8,h\n") ≡ Ok
    (user (codes "b") 2 [] ∷ user (codes "a") 1 (group (codes "g") 7 ∷ group (codes "h") 8 ∷ []) ∷ [])
unfolding records_from strip_bom next_record
by_membership = refl

-- names that a list of groups cannot hold
pub any_name : people (codes "user,uid,gid,group\na,1,5,x y\na,1,6,x:y\n") ≡ Ok
    (user (codes "a") 1 (group (codes "x y") 5 ∷ group (codes "x:y") 6 ∷ []) ∷ [])
unfolding records_from strip_bom next_record
any_name = refl

-- rows that come back are a further user
pub comes_back : people (codes "user,uid,gid,group\na,1,7,g\nb,2,,\na,3,8,h\n") ≡ Ok
    (user (codes "a") 1 (group (codes "g") 7 ∷ []) ∷ user (codes "b") 2 [] ∷ user (codes "a") 3 (group (codes "h") 8 ∷ []) ∷ [])
unfolding records_from strip_bom next_record
comes_back = refl

pub another_number : people (codes "user,uid,gid,group\na,1,7,g\na,2,8,h\n") ≡ Err (BadRow 3)
unfolding records_from strip_bom next_record
another_number = refl

-- an empty membership beside others
pub empty_behind : people (codes "user,uid,gid,group\na,1,7,g\na,1,,\n") ≡ Err (BadRow 3)
unfolding records_from strip_bom next_record
empty_behind = refl

pub empty_before : people (codes "user,uid,gid,group\na,1,,\na,1,7,g\n") ≡ Err (BadRow 3)
unfolding records_from strip_bom next_record
empty_before = refl

-- a number without a name, and a name without a number
pub no_name : people (codes "user,uid,gid,group\na,1,7,\n") ≡ Err (BadRow 2)
unfolding records_from strip_bom next_record
no_name = refl

pub no_number : people (codes "user,uid,gid,group\na,1,,g\n") ≡ Err (BadRow 2)
unfolding records_from strip_bom next_record
no_number = refl

pub other_header : people (codes "user,uid,group,gid\na,1,g,7\n") ≡ Err Header
unfolding records_from strip_bom next_record
other_header = refl
