-- What the rules and the definitions of a policy contain. sudoers(5), "Runas_Spec", "Tag_Spec" and "SETENV and NOSETENV".
use Rattle.std.specs.Prelude.{Bool, true, false, not, ◌&&◌, ◌||◌, ◌==◌, ◌%◌, if◌then◌else◌, List, [], ◌∷◌, fold}
use Rattle.std.specs.Prelude.{Option, None, Some, is_some}
use Rattle.std.specs.List.{list_any}
use Rattle.sudo_grammar.specs.declared.kind.Atom.{Atom}
use Rattle.sudo_grammar.specs.declared.kind.Atom.TheVariants as atoms
use Rattle.sudo_grammar.specs.declared.kind.Member.{Member}
use Rattle.sudo_grammar.specs.declared.tag.Tag.{Tag}
use Rattle.sudo_grammar.specs.declared.tag.TagPair.{TagPair}
use Rattle.sudo_grammar.specs.declared.tag.TagPair.TheVariants as pair
use Rattle.sudo_grammar.specs.declared.policy.Runas.{Runas}
use Rattle.sudo_grammar.specs.declared.policy.CommandSpec.{CommandSpec}
use Rattle.sudo_grammar.specs.declared.policy.Section.{Section}
use Rattle.sudo_grammar.specs.declared.policy.Definition.{Definition}
use Rattle.sudo_grammar.specs.declared.policy.EntryBody.{EntryBody}
use Rattle.sudo_grammar.specs.declared.policy.EntryBody.TheVariants as entries
use Rattle.sudo_grammar.specs.declared.policy.Entry.{Entry}
use Rattle.review_cautions.specs.ListTests.{is_of_commands}
use Rattle.review_cautions.specs.ReservedNames.{body_is_reserved}
use Rattle.review_cautions.specs.declared.class.CautionClass.{CautionClass}
use Rattle.review_cautions.specs.declared.class.CautionClass.TheVariants.{Setenv, GroupForm, Reserved}

-- a command's own runas, if it has one, has a list of groups alone, as `(:group)`; `()` and `(:)` have none
abbrev pub names_groups_alone : Option Runas → Bool
names_groups_alone None = false
names_groups_alone (Some part) = not (is_some part.users) && is_some part.groups

-- `%group` or `%#gid`, which names users for sudo, and no group
abbrev pub is_group_of_users : Atom → Bool
is_group_of_users (atoms.Group name) = true
is_group_of_users (atoms.Gid id) = true
is_group_of_users _ = false

-- such a member stands in a list of groups, if there is one
abbrev pub has_group_of_users : Option (List Member) → Bool
has_group_of_users None = false
has_group_of_users (Some groups) = list_any (λ (m : Member). is_group_of_users m.atom) groups

-- a command's own runas, if it has one, has such a member among its groups, where sudo refuses it
abbrev pub names_users_as_groups : Option Runas → Bool
names_users_as_groups None = false
names_users_as_groups (Some part) = has_group_of_users part.groups

-- a command of the section has a runas of one of the two kinds
abbrev pub has_group_form : Section → Bool
has_group_form section =
    list_any (λ (c : CommandSpec). names_groups_alone c.runas || names_users_as_groups c.runas) section.commands

-- a rule with such a section
abbrev pub body_has_group_form : EntryBody → Bool
body_has_group_form (entries.Rule users sections) = list_any has_group_form sections
body_has_group_form _ = false

-- `ALL`
abbrev pub is_all : Atom → Bool
is_all atoms.All = true
is_all _ = false

-- SETENV or NOSETENV
abbrev pub is_environment : TagPair → Bool
is_environment pair.SetEnv = true
is_environment _ = false

-- a command's own tags have one of the two
abbrev pub tags_environment : CommandSpec → Bool
tags_environment c = list_any (λ (t : Tag). is_environment t.pair) c.tags

-- which of the two holds behind a tag, if any does; `held`: the one that holds before it
abbrev pub environment_behind : Option Bool → Tag → Option Bool
environment_behind held t = if is_environment t.pair then Some t.on else held

-- the same behind a command, for itself and for those after it
abbrev pub held_behind : Option Bool → CommandSpec → Option Bool
held_behind held c = fold environment_behind held c.tags

-- an odd number of `!` denies the command
abbrev pub is_denied : CommandSpec → Bool
is_denied c = c.command.bangs % 2 == 1

-- `ALL`, granted and without one of the two tags of its own: sudo gives it SETENV, which holds for no command after it,
-- and neither does a tag before it
abbrev pub drops_environment : CommandSpec → Bool
drops_environment c = is_all c.command.atom && not (is_denied c) && not (tags_environment c)

-- such an `ALL` stands before the commands after this one, with none of the two tags between; `dropped`: before this one
abbrev pub dropped_behind : Bool → CommandSpec → Bool
dropped_behind dropped c = not (tags_environment c) && (dropped || drops_environment c)

-- NOSETENV
abbrev pub is_off : Option Bool → Bool
is_off None = false
is_off (Some on) = not on

-- a granted command without one of the two tags of its own: `ALL` behind NOSETENV, or another behind such an `ALL` and
-- one of the two
abbrev pub gives_otherwise : Option Bool → Bool → CommandSpec → Bool
gives_otherwise held dropped c = not (is_denied c) && not (tags_environment c)
    && (if is_all c.command.atom then is_off held else dropped && is_some held)

-- one of the commands of a section is such
abbrev pub has_environment : Option Bool → Bool → List CommandSpec → Bool
has_environment held dropped [] = false
has_environment held dropped (c ∷ cs) =
    gives_otherwise held dropped c || has_environment (held_behind held c) (dropped_behind dropped c) cs

-- the same of a section
abbrev pub section_has_environment : Section → Bool
section_has_environment section = has_environment None false section.commands

-- a definition has the member `ALL`: for sudo an alias of it does not give SETENV
abbrev pub defines_all : Definition → Bool
defines_all d = list_any (λ (m : Member). is_all m.atom) d.members

-- an alias
abbrev pub is_alias : Atom → Bool
is_alias (atoms.Alias name) = true
is_alias _ = false

-- a command of the section is an alias
abbrev pub section_has_alias : Section → Bool
section_has_alias section = list_any (λ (c : CommandSpec). is_alias c.command.atom) section.commands

-- a rule with such a section
abbrev pub body_has_alias : EntryBody → Bool
body_has_alias (entries.Rule users sections) = list_any section_has_alias sections
body_has_alias _ = false

-- a rule of the policy has an alias among its commands: without one no alias of commands decides anything
abbrev pub rules_have_alias : List Entry → Bool
rules_have_alias es = list_any (λ (e : Entry). body_has_alias e.body) es

-- a rule with such a section, or definitions of commands of which one has the member `ALL`, where `used` says that a rule
-- has an alias among its commands
abbrev pub body_has_environment : Bool → EntryBody → Bool
body_has_environment used (entries.Rule users sections) = list_any section_has_environment sections
body_has_environment used (entries.Aliases kind definitions) =
    used && is_of_commands kind && list_any defines_all definitions
body_has_environment used _ = false

-- an entry with this content has the construct of the class; `used`: a rule has an alias among its commands
abbrev pub body_holds : CautionClass → Bool → EntryBody → Bool
body_holds Setenv used body = body_has_environment used body
body_holds GroupForm used body = body_has_group_form body
body_holds Reserved used body = body_is_reserved body
body_holds _ used body = false
