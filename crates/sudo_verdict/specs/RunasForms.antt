-- The users and groups that a command may be run as: the five forms of a runas. sudoers(5), "Runas_Spec".
use Rattle.std.specs.Prelude.{Bool, true, false, ◌&&◌, ◌==◌, List, bytes_eq, codes, Option, Some, None, is_some, unwrap_or}
use Rattle.std.specs.List.{list_any}
use Rattle.sudo_grammar.specs.declared.kind.Kind.TheVariants as kind
use Rattle.sudo_grammar.specs.declared.kind.Member.{Member}
use Rattle.sudo_grammar.specs.declared.policy.Policy.{Policy}
use Rattle.sudo_grammar.specs.declared.policy.Runas.{Runas}
use Rattle.sudo_match.specs.declared.people.Person.{Person}
use Rattle.sudo_match.specs.declared.people.Group.{Group}
use Rattle.sudo_match.specs.Matching.{user_fits, group_fits}
use Rattle.sudo_verdict.specs.Values.{value, allows}
use Rattle.sudo_verdict.specs.Questions.{Question}

abbrev pub has_group : Person → Group → Bool
has_group u g = list_any (λ h. h.gid == g.gid) u.groups

-- equality of users: a directory has each name once
abbrev pub is_same_user : Person → Person → Bool
is_same_user t u = bytes_eq t.name u.name

-- the user has the group that is asked for, if any
abbrev pub has_asked : Person → Option Group → Bool
has_asked u None = true
has_asked u (Some g) = has_group u g

-- the user that is asked for, if any, is the invoking user
abbrev pub is_own : Person → Option Person → Bool
is_own u None = true
is_own u (Some t) = is_same_user t u

-- if a group is asked for, the list allows it, or has no value for it and the user has it
abbrev pub group_allowed : Policy → List Member → Person → Option Group → Bool
group_allowed p groups u None = true
group_allowed p groups u (Some g) = unwrap_or (value kind.Runas p groups (λ a. group_fits a g)) (has_group u g)

abbrev pub target_value : Policy → List Member → Person → Option Bool
target_value p users t = value kind.Runas p users (λ a. user_fits a t)

-- (users): the list allows the target, who has the group asked for
abbrev pub users_allow : Policy → Question → List Member → Option Person → Bool
users_allow p q users None = false
users_allow p q users (Some t) = allows (target_value p users t) && has_asked t q.group

-- (users:groups): the list allows the target, or has no value for the target if that is the invoking user and a group
-- is asked for; and the group list allows the group, or has no value for it and the target has it
abbrev pub users_and_groups_allow : Policy → Question → List Member → List Member → Option Person → Bool
users_and_groups_allow p q users groups None = false
users_and_groups_allow p q users groups (Some t) =
    unwrap_or (target_value p users t) (is_some q.group && is_same_user t q.user) && group_allowed p groups t q.group

-- (:groups): the command runs as the invoking user; the group list allows the group, or has no value for it and the
-- user has it
abbrev pub groups_allow : Policy → Question → List Member → Bool
groups_allow p q groups = is_own q.user q.asked && group_allowed p groups q.user q.group

-- (): the command runs as the invoking user, with a group of that user
abbrev pub self_allowed : Question → Bool
self_allowed q = is_own q.user q.asked && has_asked q.user q.group

-- without parentheses: as root, with a group of root
abbrev pub root_allowed : Question → Option Person → Bool
root_allowed q None = false
root_allowed q (Some t) = bytes_eq t.name (codes "root") && has_asked t q.group

-- the four forms in parentheses
unfoldable pub form_allows : Policy → Question → Option (List Member) → Option (List Member) → Bool
form_allows p q (Some users) (Some groups) = users_and_groups_allow p q users groups q.target
form_allows p q (Some users) None = users_allow p q users q.target
form_allows p q None (Some groups) = groups_allow p q groups
form_allows p q None None = self_allowed q

-- a runas, or its absence, allows the command to run as the user and the group asked for
unfoldable pub runas_allows : Policy → Question → Option Runas → Bool
runas_allows p q None = root_allowed q q.target
runas_allows p q (Some r) = form_allows p q r.users r.groups
