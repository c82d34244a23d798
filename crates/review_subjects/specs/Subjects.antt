-- The atoms, rules and definitions of aliases of a policy that reach nobody, in the policy's order. sudoers(5), "Aliases",
-- "Defaults" and "User Specification".
use Rattle.std.specs.Prelude.{Bool, List, [], ◌∷◌, ◌++◌, flat_map, Option, None, Some}
use Rattle.std.specs.Prelude.{if◌then◌else◌}
use Rattle.std.specs.List.{list_all}
use Rattle.sudo_text.specs.declared.line.Place.{Place}
use Rattle.sudo_grammar.specs.declared.kind.Kind.{Kind}
use Rattle.sudo_grammar.specs.declared.kind.Member.{Member}
use Rattle.sudo_grammar.specs.declared.policy.Binding.{Binding}
use Rattle.sudo_grammar.specs.declared.policy.Binding.TheVariants as bindings
use Rattle.sudo_grammar.specs.declared.policy.CommandSpec.{CommandSpec}
use Rattle.sudo_grammar.specs.declared.policy.Definition.{Definition}
use Rattle.sudo_grammar.specs.declared.policy.Entry.{Entry}
use Rattle.sudo_grammar.specs.declared.policy.EntryBody.{EntryBody}
use Rattle.sudo_grammar.specs.declared.policy.EntryBody.TheVariants as entries
use Rattle.sudo_grammar.specs.declared.policy.Policy.{Policy}
use Rattle.sudo_grammar.specs.declared.policy.Runas.{Runas}
use Rattle.sudo_grammar.specs.declared.policy.Section.{Section}
use Rattle.sudo_match.specs.KnownRows.{KnownRows}
use Rattle.sudo_policy.specs.Definitions.{MemberList, lists_of}
use Rattle.sudo_policy.specs.Resolving.{resolves}
use Rattle.review_subjects.specs.declared.kind.SubjectKind.TheVariants.{Alias, Rule}
use Rattle.review_subjects.specs.declared.kind.SubjectFault.TheVariants.{ReachesNobody}
use Rattle.review_subjects.specs.declared.role.Role.{Role}
use Rattle.review_subjects.specs.declared.role.Role.TheVariants.{Users, Groups, Hosts}
use Rattle.review_subjects.specs.declared.subject.Subject.{Subject}
use Rattle.review_subjects.specs.Unknown.{list_subjects, role_of}
use Rattle.review_subjects.specs.Reach.{alias_reaches, rule_reaches}

-- ---- Unknown atoms

-- the unknown atoms of a list that may be absent
abbrev pub option_subjects : KnownRows → Place → Role → Option (List Member) → List Subject
option_subjects d place role None = []
option_subjects d place role (Some members) = list_subjects d place role members

-- those of a runas: of its users, and of its groups
abbrev pub runas_subjects : KnownRows → Place → Option Runas → List Subject
runas_subjects d place None = []
runas_subjects d place (Some r) = option_subjects d place Users r.users ++ option_subjects d place Groups r.groups

-- those of the commands of a section
abbrev pub command_subjects : KnownRows → Place → List CommandSpec → List Subject
command_subjects d place commands = flat_map (λ (c : CommandSpec). runas_subjects d place c.runas) commands

-- those of a section: of its hosts, and of each runas
abbrev pub section_subjects : KnownRows → Place → Section → List Subject
section_subjects d place s = list_subjects d place Hosts s.hosts ++ command_subjects d place s.commands

-- those of the list to which a `Defaults` line is bound; one of runas users holds users
abbrev pub binding_subjects : KnownRows → Place → Binding → List Subject
binding_subjects d place (bindings.Hosts members) = list_subjects d place Hosts members
binding_subjects d place (bindings.Users members) = list_subjects d place Users members
binding_subjects d place (bindings.Commands members) = []
binding_subjects d place (bindings.Runas members) = list_subjects d place Users members

abbrev pub bound_subjects : KnownRows → Place → Option Binding → List Subject
bound_subjects d place None = []
bound_subjects d place (Some binding) = binding_subjects d place binding

-- those of the definitions of an alias line
abbrev pub defined_subjects : KnownRows → Place → Role → List Definition → List Subject
defined_subjects d place role ds = flat_map (λ (x : Definition). list_subjects d place role x.members) ds

-- ---- What reaches nobody

-- a rule; it has no name
abbrev pub idle_rule : Place → Subject
idle_rule place = record { place = place; kind = Rule; name = []; fault = ReachesNobody }

-- a definition of an alias. In a policy that passes the check each one is in force: it has the only one of its name
abbrev pub idle_alias : Place → Definition → Subject
idle_alias place x = record { place = place; kind = Alias; name = x.name; fault = ReachesNobody }

-- the subject, unless it reaches somebody
abbrev pub idle_unless : Bool → Subject → List Subject
idle_unless reaches s = if reaches then [] else s ∷ []

abbrev pub alias_subjects : Policy → KnownRows → Place → Kind → Definition → List Subject
alias_subjects p d place kind x = idle_unless (alias_reaches p d kind x.members) (idle_alias place x)

abbrev pub aliases_subjects : Policy → KnownRows → Place → Kind → List Definition → List Subject
aliases_subjects p d place kind ds = flat_map (alias_subjects p d place kind) ds

abbrev pub rule_subjects : Policy → KnownRows → Place → List Member → List Section → List Subject
rule_subjects p d place users sections = idle_unless (rule_reaches p d users sections) (idle_rule place)

-- ---- Entries

-- the subjects of an entry: its unknown atoms in the order of its lists, and then what of it reaches nobody
abbrev pub body_subjects : Policy → KnownRows → Place → EntryBody → List Subject
body_subjects p d place (entries.Aliases kind definitions) =
    defined_subjects d place (role_of kind) definitions ++ aliases_subjects p d place kind definitions
body_subjects p d place (entries.Defaults binding parameters) = bound_subjects d place binding
body_subjects p d place (entries.Rule users sections) =
    list_subjects d place Users users
    ++ (flat_map (section_subjects d place) sections ++ rule_subjects p d place users sections)
body_subjects p d place (entries.Include folder hash path) = []

abbrev pub entry_subjects : Policy → KnownRows → Entry → List Subject
entry_subjects p d e = body_subjects p d e.place e.body

-- the subjects of a policy, by what a directory knows
abbrev pub policy_subjects : Policy → KnownRows → List Subject
policy_subjects p d = flat_map (entry_subjects p d) p.entries

-- ---- Entries whose lists resolve, as those of a checked policy do; only proofs of bodies need this

abbrev pub list_resolves : Policy → MemberList → Bool
list_resolves p l = resolves l.kind p l.members

abbrev pub entry_resolves : Policy → Entry → Bool
entry_resolves p e = list_all (list_resolves p) (lists_of e)

abbrev pub definition_resolves : Policy → Kind → Definition → Bool
definition_resolves p kind x = resolves kind p x.members
