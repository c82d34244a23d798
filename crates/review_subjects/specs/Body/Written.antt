-- The values of lists that are written out. sudoers(5), "Runas_List". Only proofs of bodies use these.
use Rattle.std.specs.Prelude.{Bool, true, not, ◌||◌, List, Option, option_map, unwrap_or}
use Rattle.std.specs.List.{list_any}
use Rattle.sudo_grammar.specs.declared.kind.Atom.{Atom}
use Rattle.sudo_grammar.specs.declared.kind.Signed.{Signed}
use Rattle.sudo_match.specs.declared.people.Group.{Group}
use Rattle.sudo_match.specs.declared.people.Person.{Person}
use Rattle.sudo_match.specs.Matching.{user_fits, group_fits}
use Rattle.sudo_verdict.specs.Last.{last_that}
use Rattle.sudo_verdict.specs.Values.{allows}

-- the sign of the last atom that passes the test, or none
abbrev pub written_value : List Signed → (Atom → Bool) → Option Bool
written_value atoms test = option_map (λ (s : Signed). not s.negated) (last_that (λ (s : Signed). test s.atom) atoms)

abbrev pub user_value : List Signed → Person → Option Bool
user_value atoms u = written_value atoms (λ a. user_fits a u)

abbrev pub group_value : List Signed → Group → Option Bool
group_value atoms g = written_value atoms (λ a. group_fits a g)

-- as in `Reach`, for written-out lists

abbrev pub allows_user : List Signed → List Person → Bool
allows_user atoms people = list_any (λ u. allows (user_value atoms u)) people

abbrev pub allows_own_group : List Signed → Person → Bool
allows_own_group atoms u = list_any (λ g. allows (group_value atoms g)) u.groups

abbrev pub allows_group : List Signed → List Person → Bool
allows_group atoms people = list_any (allows_own_group atoms) people

abbrev pub allows_target : List Signed → List Person → Bool
allows_target atoms people = allows_user atoms people || allows_group atoms people

abbrev pub spares_own_group : List Signed → Person → Bool
spares_own_group atoms u = list_any (λ g. unwrap_or (group_value atoms g) true) u.groups

abbrev pub pair_reaches : List Signed → List Signed → Bool → Person → Bool
pair_reaches users groups any_group u = unwrap_or (user_value users u) (any_group || spares_own_group groups u)
