-- Aliases with names that sudo reserves. sudoers(5), "Option_Spec" and "Tag_Spec".
use Rattle.std.specs.Prelude.{ℕ, Bool, false, ◌&&◌, ◌||◌, List, Option, None, Some, is_some, codes}
use Rattle.std.specs.Prelude.{length, drop, take, ◌-◌}
use Rattle.std.specs.List.{list_any}
use Rattle.std.specs.Str.{bytes_eq}
use Rattle.sudo_grammar.specs.declared.kind.Atom.{Atom}
use Rattle.sudo_grammar.specs.declared.kind.Atom.TheVariants as atoms
use Rattle.sudo_grammar.specs.declared.kind.Member.{Member}
use Rattle.sudo_grammar.specs.declared.policy.Runas.{Runas}
use Rattle.sudo_grammar.specs.declared.policy.CommandSpec.{CommandSpec}
use Rattle.sudo_grammar.specs.declared.policy.Section.{Section}
use Rattle.sudo_grammar.specs.declared.policy.Definition.{Definition}
use Rattle.sudo_grammar.specs.declared.policy.EntryBody.{EntryBody}
use Rattle.sudo_grammar.specs.declared.policy.EntryBody.TheVariants as entries

-- the name of an option, which no alias has for sudo: it reserves the names
abbrev pub is_option : List ℕ → Bool
is_option name = bytes_eq name (codes "TIMEOUT") || bytes_eq name (codes "NOTBEFORE") || bytes_eq name (codes "NOTAFTER")
    || bytes_eq name (codes "CWD") || bytes_eq name (codes "CHROOT") || bytes_eq name (codes "ROLE") || bytes_eq name (codes "TYPE")
    || bytes_eq name (codes "APPARMOR_PROFILE") || bytes_eq name (codes "PRIVS") || bytes_eq name (codes "LIMITPRIVS")

-- the name of a tag, which sudo reads as one before a colon
abbrev pub is_tag : List ℕ → Bool
is_tag name = bytes_eq name (codes "EXEC") || bytes_eq name (codes "NOEXEC") || bytes_eq name (codes "FOLLOW")
    || bytes_eq name (codes "NOFOLLOW") || bytes_eq name (codes "INTERCEPT") || bytes_eq name (codes "NOINTERCEPT")
    || bytes_eq name (codes "LOG_INPUT") || bytes_eq name (codes "NOLOG_INPUT") || bytes_eq name (codes "LOG_OUTPUT")
    || bytes_eq name (codes "NOLOG_OUTPUT") || bytes_eq name (codes "MAIL") || bytes_eq name (codes "NOMAIL")
    || bytes_eq name (codes "PASSWD") || bytes_eq name (codes "NOPASSWD") || bytes_eq name (codes "SETENV")
    || bytes_eq name (codes "NOSETENV")

-- an alias of such a name
abbrev pub is_tag_alias : Atom → Bool
is_tag_alias (atoms.Alias name) = is_tag name
is_tag_alias _ = false

-- the last of some members is one
abbrev pub end_in_tag : List Member → Bool
end_in_tag ms = list_any (λ (m : Member). is_tag_alias m.atom) (drop (length ms - 1) ms)

-- one of some definitions but the last, behind which no colon stands, ends in one
abbrev pub definitions_have_tag : List Definition → Bool
definitions_have_tag ds = list_any (λ (d : Definition). end_in_tag d.members) (take (length ds - 1) ds)

-- the list of users ends in one, if there is one
abbrev pub users_end_in_tag : Option (List Member) → Bool
users_end_in_tag None = false
users_end_in_tag (Some users) = end_in_tag users

-- the users of a runas end in one, before the colon of its groups
abbrev pub runas_has_tag : Option Runas → Bool
runas_has_tag None = false
runas_has_tag (Some part) = is_some part.groups && users_end_in_tag part.users

-- a command of a section has such a runas
abbrev pub section_has_tag : Section → Bool
section_has_tag section = list_any (λ (c : CommandSpec). runas_has_tag c.runas) section.commands

-- the last command of a section is such an alias
abbrev pub section_ends_in_tag : Section → Bool
section_ends_in_tag section =
    list_any (λ (c : CommandSpec). is_tag_alias c.command.atom) (drop (length section.commands - 1) section.commands)

-- one of some sections has such a runas, or one but the last, behind which no colon stands, ends in such an alias
abbrev pub sections_have_tag : List Section → Bool
sections_have_tag sections =
    list_any section_has_tag sections || list_any section_ends_in_tag (take (length sections - 1) sections)

-- definitions, one of them under the name of an option; or such an alias directly before a colon
abbrev pub body_is_reserved : EntryBody → Bool
body_is_reserved (entries.Aliases kind definitions) =
    list_any (λ (d : Definition). is_option d.name) definitions || definitions_have_tag definitions
body_is_reserved (entries.Rule users sections) = sections_have_tag sections
body_is_reserved _ = false
