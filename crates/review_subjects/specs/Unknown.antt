-- Atoms that no known user, group or host fits. sudoers(5), "User_List", "Runas_List" and "Host_List".
use Rattle.std.specs.Prelude.{Bool, true, ◌||◌, if◌then◌else◌, List, [], ◌∷◌, flat_map, Option, None, Some}
use Rattle.std.specs.List.{list_any}
use Rattle.sudo_text.specs.declared.line.Place.{Place}
use Rattle.sudo_grammar.specs.declared.kind.Kind.{Kind}
use Rattle.sudo_grammar.specs.declared.kind.Kind.TheVariants as kinds
use Rattle.sudo_grammar.specs.declared.kind.Atom.{Atom}
use Rattle.sudo_grammar.specs.declared.kind.Atom.TheVariants as atoms
use Rattle.sudo_grammar.specs.declared.kind.Member.{Member}
use Rattle.sudo_match.specs.declared.people.Person.{Person}
use Rattle.sudo_match.specs.KnownRows.{KnownRows}
use Rattle.sudo_match.specs.Matching.{user_fits, group_fits, host_fits}
use Rattle.sudo_parser.specs.Texts.{atom_text}
use Rattle.review_subjects.specs.declared.kind.SubjectKind.{SubjectKind}
use Rattle.review_subjects.specs.declared.kind.SubjectKind.TheVariants as subjects
use Rattle.review_subjects.specs.declared.kind.SubjectFault.TheVariants.{Unknown}
use Rattle.review_subjects.specs.declared.role.Role.{Role}
use Rattle.review_subjects.specs.declared.role.Role.TheVariants.{Users, Groups, Targets, Hosts, Commands}
use Rattle.review_subjects.specs.declared.subject.Subject.{Subject}

-- what the lists of the aliases of a kind stand for; an alias of the kind Runas stands for users or for groups
abbrev pub role_of : Kind → Role
role_of kinds.User = Users
role_of kinds.Runas = Targets
role_of kinds.Host = Hosts
role_of kinds.Cmnd = Commands

-- what an atom of a list of users names: a user, or a group whose users are meant
abbrev pub user_kind : Atom → Option SubjectKind
user_kind (atoms.Name name) = Some subjects.User
user_kind (atoms.Uid id) = Some subjects.Uid
user_kind (atoms.Group name) = Some subjects.Group
user_kind (atoms.Gid id) = Some subjects.Gid
user_kind _ = None

-- what an atom of a list of groups names: a group, with a percent sign or without
abbrev pub group_kind : Atom → Option SubjectKind
group_kind (atoms.Name name) = Some subjects.Group
group_kind (atoms.Uid id) = Some subjects.Gid
group_kind (atoms.Group name) = Some subjects.Group
group_kind (atoms.Gid id) = Some subjects.Gid
group_kind _ = None

-- what an atom of a list of hosts names
abbrev pub host_kind : Atom → Option SubjectKind
host_kind (atoms.Host chars quoted) = Some subjects.Host
host_kind (atoms.Address addr) = Some subjects.Address
host_kind (atoms.Net addr mask) = Some subjects.Network
host_kind _ = None

-- what an atom of a list names; none for `ALL`, for an alias and for a command
abbrev pub kind_of : Role → Atom → Option SubjectKind
kind_of Users a = user_kind a
kind_of Groups a = group_kind a
kind_of Targets a = user_kind a
kind_of Hosts a = host_kind a
kind_of Commands a = None

-- an atom of a list of groups fits a group of the user
abbrev pub fits_own_group : Atom → Person → Bool
fits_own_group a u = list_any (group_fits a) u.groups

-- a known one fits the atom: a user, a group of a known user, in a Runas alias either, or a host
abbrev pub is_known : KnownRows → Role → Atom → Bool
is_known d Users a = list_any (user_fits a) d.people
is_known d Groups a = list_any (fits_own_group a) d.people
is_known d Targets a = list_any (user_fits a) d.people || list_any (fits_own_group a) d.people
is_known d Hosts a = list_any (host_fits a) d.machines
is_known d Commands a = true

-- an unknown atom of an entry at a place; its name is the atom as a written-out list has it
abbrev pub unknown_at : Place → SubjectKind → Atom → Subject
unknown_at place kind a = record { place = place; kind = kind; name = atom_text a; fault = Unknown }

-- the atom, if it names somebody and no known one fits it
abbrev pub named_subjects : KnownRows → Place → Role → Atom → Option SubjectKind → List Subject
named_subjects d place role a None = []
named_subjects d place role a (Some kind) = if is_known d role a then [] else unknown_at place kind a ∷ []

abbrev pub atom_subjects : KnownRows → Place → Role → Atom → List Subject
atom_subjects d place role a = named_subjects d place role a (kind_of role a)

-- the unknown atoms of a list, in order; the signs of the members do not matter
abbrev pub list_subjects : KnownRows → Place → Role → List Member → List Subject
list_subjects d place role members = flat_map (λ (m : Member). atom_subjects d place role m.atom) members
