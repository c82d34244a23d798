-- Definitions, lists and links in the survey of a policy: definitions that only proofs need.
use Rattle.std.specs.Prelude.{◌≡◌, ◌<◌, ℕ, List, [], Option, Some, map, find, option_map, option_and_then, filter}
use Rattle.std.specs.Prelude.{is_some, slice_get, length, if◌then◌else◌}
use Rattle.sudo_grammar.specs.declared.kind.Kind.{Kind}
use Rattle.sudo_policy.specs.declared.index.Index.{Index}
use Rattle.sudo_policy.specs.declared.index.Position.{Position}
use Rattle.sudo_grammar.specs.declared.kind.Member.{Member}
use Rattle.sudo_grammar.specs.declared.policy.Definition.{Definition}
use Rattle.sudo_grammar.specs.declared.policy.Policy.{Policy}
use Rattle.sudo_policy.specs.declared.survey.DefinitionRef.{DefinitionRef}
use Rattle.sudo_policy.specs.declared.survey.Survey.{Survey}
use Rattle.sudo_policy.specs.Definitions.{AliasDefinition, MemberList, defines, definitions_in_force, redefinitions, alias_named}
use Rattle.sudo_policy.specs.Positions.{members_at}
use Rattle.sudo_policy.specs.Body.Positions.{names_of_kind}
use Rattle.sudo_base.specs.NameIndices.{index_of}

-- the definition, without its position
abbrev pub alias_view : DefinitionRef → AliasDefinition
alias_view n = record { kind = n.kind; place = n.place; name = n.name.now; members = n.members.now }

-- the number of the alias that a member names, among the names of its kind
abbrev pub link_among : List (List ℕ × ℕ) → Member → Option ℕ
link_among names m = option_and_then (λ name. index_of names name) (alias_named m.atom)

abbrev pub link_of : Index → Kind → Member → Option ℕ
link_of index kind m = link_among (names_of_kind index kind) m

abbrev pub row_of : Index → Kind → List Member → List (Option ℕ)
row_of index kind ms = map (link_of index kind) ms

abbrev pub row_of_alias : Index → AliasDefinition → List (Option ℕ)
row_of_alias index d = row_of index d.kind d.members

-- the aliases that a list names, if it belongs to a rule or to a bound `Defaults` line
abbrev pub granting_row : Index → MemberList → List (Option ℕ)
granting_row index l = if l.granting then filter is_some (row_of index l.kind l.members) else []

-- the definition is at its position
abbrev pub IsAtItsPosition : Policy → DefinitionRef → Type 0
IsAtItsPosition p n = members_at p n.position ≡ Some n.members.now

-- the definitions of the entry are these
abbrev pub StandAt : Policy → ℕ → List Definition → Type 0
StandAt p entry ds = (j : ℕ) → members_at p (record { entry = entry; definition = j }) ≡ option_map
    (λ (d : Definition). d.members) (slice_get ds j)

-- the invariant of the names of each kind, the aliases and their positions
pub record IsIndexed (p : Policy) (done aliases : List AliasDefinition) (names : Kind → List (List ℕ × ℕ))
    (positions : List Position) : Type 0 where
  pub lookup : (kind : Kind) (name : List ℕ) → option_and_then (slice_get aliases) (index_of (names kind) name) ≡ find
      (defines kind name) done
  pub inside : (kind : Kind) (name : List ℕ) (i : ℕ) → index_of (names kind) name ≡ Some i → i < length aliases
  pub own : (i : ℕ) (d : AliasDefinition) → slice_get aliases i ≡ Some d → index_of (names d.kind) d.name ≡ Some i
  pub same_length : length positions ≡ length aliases
  pub placed : (i : ℕ) → option_and_then (members_at p) (slice_get positions i) ≡ option_map
      (λ (d : AliasDefinition). d.members) (slice_get aliases i)

-- the survey of the definitions `done`, the first ones of a policy
pub record IsSurvey (p : Policy) (done : List AliasDefinition) (survey : Survey) : Type 0 where
  pub aliases_are : map alias_view survey.aliases.items ≡ definitions_in_force [] done
  pub repeats_are : map alias_view survey.redefinitions.items ≡ redefinitions [] done
  pub indexed : IsIndexed p done (map alias_view survey.aliases.items) (names_of_kind survey.index) survey.index.positions.items

-- each name's number is that of an alias
abbrev pub LeadsInside : Survey → Type 0
LeadsInside survey = (kind : Kind) (name : List ℕ) (i : ℕ) → index_of (names_of_kind survey.index kind) name ≡ Some i
    → i < length survey.aliases.items
