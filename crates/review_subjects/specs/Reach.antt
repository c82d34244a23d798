-- Rules and definitions of aliases that allow no known user, group or host. sudoers(5), "Aliases", "User Specification" and
-- "Runas_Spec"; sudo(8), -u and -g.
use Rattle.std.specs.Prelude.{Bool, true, false, ◌&&◌, ◌||◌, List, [], ◌∷◌, Option, None, Some, unwrap_or}
use Rattle.std.specs.List.{list_any}
use Rattle.sudo_grammar.specs.declared.kind.Kind.{Kind}
use Rattle.sudo_grammar.specs.declared.kind.Kind.TheVariants as kinds
use Rattle.sudo_grammar.specs.declared.kind.Member.{Member}
use Rattle.sudo_grammar.specs.declared.policy.CommandSpec.{CommandSpec}
use Rattle.sudo_grammar.specs.declared.policy.Policy.{Policy}
use Rattle.sudo_grammar.specs.declared.policy.Runas.{Runas}
use Rattle.sudo_grammar.specs.declared.policy.Section.{Section}
use Rattle.sudo_match.specs.declared.people.Group.{Group}
use Rattle.sudo_match.specs.declared.people.Person.{Person}
use Rattle.sudo_match.specs.KnownRows.{KnownRows}
use Rattle.sudo_match.specs.Matching.{user_fits, group_fits}
use Rattle.sudo_verdict.specs.Values.{value, allows, user_allowed, host_allowed}

-- ---- Lists of users and of groups to run as

-- the value of a list for a user to run as
abbrev pub user_value : Policy → List Member → Person → Option Bool
user_value p members u = value kinds.Runas p members (λ a. user_fits a u)

-- the value of a list for a group to run with
abbrev pub group_value : Policy → List Member → Group → Option Bool
group_value p members g = value kinds.Runas p members (λ a. group_fits a g)

-- the list allows some of these users
abbrev pub allows_user : Policy → List Member → List Person → Bool
allows_user p members people = list_any (λ u. allows (user_value p members u)) people

-- the list allows some group of the user
abbrev pub allows_own_group : Policy → List Member → Person → Bool
allows_own_group p members u = list_any (λ g. allows (group_value p members g)) u.groups

-- the list allows some group of some of these users
abbrev pub allows_group : Policy → List Member → List Person → Bool
allows_group p members people = list_any (allows_own_group p members) people

-- the list does not deny some group of the user: its value is plus, or it has none
abbrev pub spares_own_group : Policy → List Member → Person → Bool
spares_own_group p members u = list_any (λ g. unwrap_or (group_value p members g) true) u.groups

-- `(users:groups)` can be used to run as a user: the list of users decides. Where it says nothing of the user, that user
-- can keep the own name and ask for a group, one that the list of groups allows or an own one that it does not deny
abbrev pub pair_reaches : Policy → List Member → List Member → Bool → Person → Bool
pair_reaches p users groups any_group u =
    unwrap_or (user_value p users u) (any_group || spares_own_group p groups u)

-- a runas reaches a known user: `()` and `(:groups)` run as the user who asks
abbrev pub form_reaches : Policy → List Person → Option (List Member) → Option (List Member) → Bool
form_reaches p people None groups = true
form_reaches p people (Some users) None = allows_user p users people
form_reaches p people (Some users) (Some groups) =
    list_any (pair_reaches p users groups (allows_group p groups people)) people

abbrev pub runas_reaches : Policy → List Person → Runas → Bool
runas_reaches p people r = form_reaches p people r.users r.groups

-- ---- Rules

-- the runas of a command, if it has one of its own
abbrev pub own_reaches : Policy → List Person → Bool → Option Runas → Bool
own_reaches p people otherwise None = otherwise
own_reaches p people otherwise (Some r) = runas_reaches p people r

-- the commands of a section reach a known user. A runas holds up to the next one, so each run of commands with one runas
-- counts once, by the command that names it; the commands before the first runas run as root, who is known
abbrev pub commands_reach : Policy → List Person → List CommandSpec → Bool
commands_reach p people [] = false
commands_reach p people (c ∷ cs) =
    own_reaches p people true c.runas || list_any (λ (d : CommandSpec). own_reaches p people false d.runas) cs

-- a section reaches somebody: its list of hosts allows a known host, and its commands reach a known user
abbrev pub section_reaches : Policy → KnownRows → Section → Bool
section_reaches p d s = list_any (host_allowed p s.hosts) d.machines && commands_reach p d.people s.commands

-- a rule reaches somebody: its list of users allows a known user, and one of its sections reaches somebody
abbrev pub rule_reaches : Policy → KnownRows → List Member → List Section → Bool
rule_reaches p d users sections = list_any (user_allowed p users) d.people && list_any (section_reaches p d) sections

-- ---- Definitions of aliases

-- the list of an alias of a kind allows a known one; one of the kind Runas allows a user or a group
abbrev pub alias_reaches : Policy → KnownRows → Kind → List Member → Bool
alias_reaches p d kinds.User members = list_any (user_allowed p members) d.people
alias_reaches p d kinds.Runas members = allows_user p members d.people || allows_group p members d.people
alias_reaches p d kinds.Host members = list_any (host_allowed p members) d.machines
alias_reaches p d kinds.Cmnd members = true
