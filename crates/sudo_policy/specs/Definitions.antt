-- The alias definitions of a policy, and the uses of alias names. sudoers(5), "Aliases".
use Rattle.std.specs.Prelude.{◌≡◌, ℕ, Bool, true, false, ◌&&◌, List, [], ◌∷◌, ◌++◌, Option, Some, None, is_some}
use Rattle.std.specs.Prelude.{option_map, option_to_list, find, map, flat_map, Contains, IsSome, bytes_eq}
use Rattle.std.specs.Prelude.{if◌then◌else◌}
use Rattle.sudo_grammar.specs.declared.kind.Kind.{Kind}
use Rattle.sudo_grammar.specs.declared.kind.Kind.TheVariants.{User, Runas, Host, Cmnd}
use Rattle.sudo_grammar.specs.declared.kind.Atom.{Atom}
use Rattle.sudo_grammar.specs.declared.kind.Atom.TheVariants.{Alias}
use Rattle.sudo_grammar.specs.declared.kind.Member.{Member}
use Rattle.sudo_grammar.specs.declared.policy.Definition.{Definition}
use Rattle.sudo_grammar.specs.declared.policy.Runas.{Runas as RunasPart}
use Rattle.sudo_grammar.specs.declared.policy.CommandSpec.{CommandSpec}
use Rattle.sudo_grammar.specs.declared.policy.Section.{Section}
use Rattle.sudo_grammar.specs.declared.policy.Binding.{Binding}
use Rattle.sudo_grammar.specs.declared.policy.Binding.TheVariants.{Hosts, Users, Commands, Runas as RunasUsers}
use Rattle.sudo_grammar.specs.declared.policy.EntryBody.{EntryBody}
use Rattle.sudo_grammar.specs.declared.policy.EntryBody.TheVariants.{Aliases, Defaults, Rule, Include}
use Rattle.sudo_grammar.specs.declared.policy.Entry.{Entry}
use Rattle.sudo_grammar.specs.declared.policy.Policy.{Policy}
use Rattle.sudo_grammar.specs.Kinds.{same_kind}
use Rattle.sudo_policy.specs.declared.survey.MemberList.{MemberList as HeldList}
use Rattle.sudo_text.specs.declared.line.Place.{Place}

-- an alias definition: its kind, the place of its line, its name and its members
pub record AliasDefinition : Type 0 where
  pub kind : Kind
  pub place : Place
  pub name : List ℕ
  pub members : List Member

abbrev pub definition_in : Kind → Place → Definition → AliasDefinition
definition_in kind place d = record { kind = kind; place = place; name = d.name; members = d.members }

abbrev pub definitions_of_list : Kind → Place → List Definition → List AliasDefinition
definitions_of_list kind place ds = map (definition_in kind place) ds

-- the definitions of one entry, in order
abbrev pub definitions_of_body : Place → EntryBody → List AliasDefinition
definitions_of_body place (Aliases kind definitions) = definitions_of_list kind place definitions
definitions_of_body place _ = []

abbrev pub definitions_of : Entry → List AliasDefinition
definitions_of e = definitions_of_body e.place e.body

-- every definition of a policy, in the order of the file
abbrev pub definitions : Policy → List AliasDefinition
definitions p = flat_map definitions_of p.entries

-- a definition of this name and kind
abbrev pub defines : Kind → List ℕ → AliasDefinition → Bool
defines kind name d = same_kind kind d.kind && bytes_eq name d.name

-- the definition in force: the first of its name and kind
abbrev pub definition_in_force : Kind → Policy → List ℕ → Option AliasDefinition
definition_in_force kind p name = find (defines kind name) (definitions p)

-- the members of the definition in force
abbrev pub in_force : Kind → Policy → List ℕ → Option (List Member)
in_force kind p name = option_map (λ (d : AliasDefinition). d.members) (definition_in_force kind p name)

-- some definition of the list has the name and the kind of this one
abbrev pub is_defined_in : List AliasDefinition → AliasDefinition → Bool
is_defined_in earlier d = is_some (find (defines d.kind d.name) earlier)

-- the definitions of the second list whose name and kind no earlier definition has, where those of the first list come
-- before all
abbrev pub definitions_in_force : List AliasDefinition → List AliasDefinition → List AliasDefinition
definitions_in_force earlier [] = []
definitions_in_force earlier (d ∷ ds) = if is_defined_in earlier d then definitions_in_force (earlier ++ d ∷ [])
    ds else d ∷ definitions_in_force (earlier ++ d ∷ []) ds

-- the further definitions: those whose name and kind an earlier definition has
abbrev pub redefinitions : List AliasDefinition → List AliasDefinition → List AliasDefinition
redefinitions earlier [] = []
redefinitions earlier (d ∷ ds) = if is_defined_in earlier d then d ∷ redefinitions (earlier ++ d ∷ [])
    ds else redefinitions (earlier ++ d ∷ []) ds

-- the aliases of a policy: the definitions in force, in the order of the file
abbrev pub aliases : Policy → List AliasDefinition
aliases p = definitions_in_force [] (definitions p)

-- a list of members in a policy: the kind of its members, the place of its line, and whether it belongs to a rule or to
-- a bound `Defaults` line
pub record MemberList : Type 0 where
  pub kind : Kind
  pub place : Place
  pub granting : Bool
  pub members : List Member

-- the list that a value of the program stands for
abbrev pub list_view : HeldList → MemberList
list_view l = record { kind = l.kind; place = l.place; granting = l.granting; members = l.members.now }

abbrev pub granting_list : Kind → Place → List Member → MemberList
granting_list kind place members = record { kind = kind; place = place; granting = true; members = members }

abbrev pub option_lists : Kind → Place → Option (List Member) → List MemberList
option_lists kind place None = []
option_lists kind place (Some members) = granting_list kind place members ∷ []

-- the lists of a runas: its user list and its group list, whose aliases are both of the kind Runas
abbrev pub runas_lists : Place → Option RunasPart → List MemberList
runas_lists place None = []
runas_lists place (Some part) = option_lists Runas place part.users ++ option_lists Runas place part.groups

abbrev pub command_lists : Place → CommandSpec → List MemberList
command_lists place spec = runas_lists place spec.runas ++ granting_list Cmnd place (spec.command ∷ []) ∷ []

abbrev pub section_lists : Place → Section → List MemberList
section_lists place section = granting_list Host place section.hosts ∷ flat_map (command_lists place) section.commands

abbrev pub binding_lists_of : Place → Binding → List MemberList
binding_lists_of place (Hosts members) = granting_list Host place members ∷ []
binding_lists_of place (Users members) = granting_list User place members ∷ []
binding_lists_of place (Commands members) = granting_list Cmnd place members ∷ []
binding_lists_of place (RunasUsers members) = granting_list Runas place members ∷ []

abbrev pub binding_lists : Place → Option Binding → List MemberList
binding_lists place None = []
binding_lists place (Some binding) = binding_lists_of place binding

abbrev pub list_in : Kind → Place → Definition → MemberList
list_in kind place d = record { kind = kind; place = place; granting = false; members = d.members }

abbrev pub lists_of_list : Kind → Place → List Definition → List MemberList
lists_of_list kind place ds = map (list_in kind place) ds

-- the lists of one entry, in the order of the line
abbrev pub lists_of_body : Place → EntryBody → List MemberList
lists_of_body place (Aliases kind definitions) = lists_of_list kind place definitions
lists_of_body place (Defaults binding parameters) = binding_lists place binding
lists_of_body place (Rule users sections) = granting_list User place users ∷ flat_map (section_lists place) sections
lists_of_body place (Include folder hash path) = []

abbrev pub lists_of : Entry → List MemberList
lists_of e = lists_of_body e.place e.body

-- every list of a policy, in the order of the file
abbrev pub lists : Policy → List MemberList
lists p = flat_map lists_of p.entries

-- the alias that an atom names
abbrev pub alias_named : Atom → Option (List ℕ)
alias_named (Alias name) = Some name
alias_named _ = None

-- the alias names among the members, in order
abbrev pub names_used : List Member → List (List ℕ)
names_used [] = []
names_used (m ∷ ms) = option_to_list (alias_named m.atom) ++ names_used ms

-- the definition in force of alias a has the defined alias b of that kind as a member
pub record Refers (p : Policy) (kind : Kind) (a b : List ℕ) : Type 0 where
  pub members : List Member
  pub defines_a : in_force kind p a ≡ Some members
  pub names_b : Contains (names_used members) b
  pub defined_b : IsSome (in_force kind p b)

-- one or more such references
pub data Reaches (p : Policy) (kind : Kind) : List ℕ → List ℕ → Type 0 where
  step : {a b : List ℕ} → Refers p kind a b → Reaches p kind a b
  more : {a b c : List ℕ} → Refers p kind a b → Reaches p kind b c → Reaches p kind a c
