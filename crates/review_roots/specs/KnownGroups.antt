-- The groups that may be added: the known ones, or those of them that the user list of a rule names. group(5); sudoers(5),
-- "User_List".
use Rattle.std.specs.Prelude.{◌≡◌, Bool, false, ◌&&◌, ◌==◌, if◌then◌else◌, List, [], ◌∷◌, ◌++◌, filter, flat_map, fold, bytes_eq, Some}
use Rattle.std.specs.List.{list_any, Contains}
use Rattle.sudo_grammar.specs.declared.kind.Atom.{Atom}
use Rattle.sudo_grammar.specs.declared.kind.Atom.TheVariants as atom
use Rattle.sudo_grammar.specs.declared.kind.Kind.TheVariants as kind
use Rattle.sudo_grammar.specs.declared.kind.Member.{Member}
use Rattle.sudo_grammar.specs.declared.kind.Signed.{Signed}
use Rattle.sudo_grammar.specs.declared.policy.Entry.{Entry}
use Rattle.sudo_grammar.specs.declared.policy.EntryBody.{EntryBody}
use Rattle.sudo_grammar.specs.declared.policy.EntryBody.TheVariants.{Rule}
use Rattle.sudo_grammar.specs.declared.policy.Policy.{Policy}
use Rattle.sudo_grammar.specs.declared.policy.Section.{Section}
use Rattle.sudo_match.specs.declared.people.Group.{Group}
use Rattle.sudo_match.specs.declared.people.Person.{Person}
use Rattle.sudo_match.specs.KnownRows.{KnownRows, groups_of}
use Rattle.sudo_policy.specs.Written.{written_form}
use Rattle.sudo_verdict.specs.Values.{user_allowed}
use Rattle.review_roots.specs.States.{with_added}

abbrev pub same_group : Group → Group → Bool
same_group a b = (a.gid == b.gid) && bytes_eq a.name b.name

-- the groups with a further one, unless they have it
abbrev pub with_group : List Group → Group → List Group
with_group groups g = if list_any (same_group g) groups then groups else groups ++ g ∷ []

-- each group that a known user has, once, in the order of the users
abbrev pub known_groups : KnownRows → List Group
known_groups d = fold with_group [] (groups_of d.people)

-- the atom is the group, by its name or by its ID
abbrev pub names_group : Group → Atom → Bool
names_group g (atom.Group name) = bytes_eq g.name name
names_group g (atom.Gid gid) = g.gid == gid
names_group g _ = false

-- an atom of the list, written out, is the group
abbrev pub list_names : Group → List Signed → Bool
list_names g ws = list_any (λ w. names_group g w.atom) ws

-- the user list of a rule, written out
abbrev pub body_users : Policy → EntryBody → List Signed
body_users p (Rule users sections) = written_form kind.User p users
body_users p _ = []

-- the user lists of all rules, written out
abbrev pub rule_users : Policy → List Signed
rule_users p = flat_map (λ e. body_users p e.body) p.entries

-- the known groups that the user list of a rule names
abbrev pub named_groups : Policy → KnownRows → List Group
named_groups p d = filter (λ g. list_names g (rule_users p)) (known_groups d)

-- whoever adds a group that no user list of a rule names is in no other list than before
abbrev pub OtherGroupsChangeNoList : Type 0
OtherGroupsChangeNoList =
    (p : Policy) (g : Group) → list_names g (rule_users p) ≡ false →
    (e : Entry) (users : List Member) (sections : List Section) → Contains p.entries e → e.body ≡ Rule users sections →
    (u : Person) → user_allowed p users (with_added u (Some g)) ≡ user_allowed p users u
