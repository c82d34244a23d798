-- The findings on a policy's aliases: those of strict mode of visudo(8), and of this program's limits.
use Rattle.std.specs.Prelude.{◌≡◌, ℕ, suc, ◌<◌, Bool, true, false, List, [], ◌++◌, Some, is_none, map, flat_map}
use Rattle.std.specs.Prelude.{filter, slice_get, length, Contains, IsTrue, ◌⊎◌, ◌↔◌}
use Rattle.std.specs.List.{items_where_true, list_any}
use Rattle.sudo_policy.specs.declared.finding.Class.{Class}
use Rattle.sudo_policy.specs.declared.finding.Class.TheVariants.{Redefined, Undefined, Cycle, TooDeep, TooWide, Unused}
use Rattle.sudo_policy.specs.declared.finding.Finding.{Finding}
use Rattle.sudo_grammar.specs.declared.policy.Policy.{Policy}
use Rattle.sudo_policy.specs.Definitions.{AliasDefinition, MemberList, aliases, redefinitions, definitions, lists}
use Rattle.sudo_policy.specs.Definitions.{names_used, in_force, Reaches}
use Rattle.sudo_policy.specs.Following.{ReadsAs, depth, width}

-- a finding on a definition
abbrev pub finding_on : Class → AliasDefinition → Finding
finding_on class d = record { class = class; place = d.place; kind = d.kind; name = d.name }

-- the alias is reached from itself
abbrev pub IsCyclic : Policy → AliasDefinition → Type 0
IsCyclic p d = Reaches p d.kind d.name d.name

-- the alias reaches no cycle, and begins a chain of more than 64 aliases
pub record IsTooDeep (p : Policy) (d : AliasDefinition) : Type 0 where
  pub inner : ℕ
  pub inner_is : ReadsAs depth d.kind p d.members inner
  pub over : 64 < suc inner

-- the alias reaches no cycle, and has more than 65,536 members when it is written out
pub record IsTooWide (p : Policy) (d : AliasDefinition) : Type 0 where
  pub members : ℕ
  pub members_are : ReadsAs width d.kind p d.members members
  pub over : 65536 < members

-- a rule or a bound `Defaults` line reaches the alias, directly or through aliases
pub record IsUsed (p : Policy) (d : AliasDefinition) : Type 0 where
  pub list : MemberList
  pub among : Contains (lists p) list
  pub grants : list.granting ≡ true
  pub same_kind : list.kind ≡ d.kind
  pub name : List ℕ
  pub named : Contains (names_used list.members) name
  pub way : (name ≡ d.name) ⊎ Reaches p d.kind name d.name

abbrev pub IsUnused : Policy → AliasDefinition → Type 0
IsUnused p d = IsUsed p d → ⊥

-- one mark for each definition of the list, true exactly if T holds of it
pub record Marks (T : AliasDefinition → Type 0) (ds : List AliasDefinition) (marks : List Bool) : Type 0 where
  pub same_length : length marks ≡ length ds
  pub exact : (i : ℕ) (d : AliasDefinition) (mark : Bool) → slice_get ds i ≡ Some d → slice_get marks i ≡ Some mark → IsTrue mark ↔ T d

-- the uses in a list of names without a definition of that kind
abbrev pub undefined_in : Policy → MemberList → List Finding
undefined_in p list =
    map (λ name. record { class = Undefined; place = list.place; kind = list.kind; name = name })
    (filter (λ name. is_none (in_force list.kind p name)) (names_used list.members))

-- the findings, by the marks of the aliases that are cyclic, too deep, too wide and unused: class by class, each class
-- in the order of the file
abbrev pub found_by : Policy → List Bool → List Bool → List Bool → List Bool → List Finding
found_by p cyclic deep wide unused =
    map (finding_on Redefined) (redefinitions [] (definitions p))
    ++ (flat_map (undefined_in p) (lists p)
    ++ (map (finding_on Cycle) (items_where_true cyclic (aliases p))
    ++ (map (finding_on TooDeep) (items_where_true deep (aliases p))
    ++ (map (finding_on TooWide) (items_where_true wide (aliases p))
    ++ map (finding_on Unused) (items_where_true unused (aliases p))))))

-- the findings of a policy
pub record AreFindings (p : Policy) (found : List Finding) : Type 0 where
  pub cyclic : List Bool
  pub deep : List Bool
  pub wide : List Bool
  pub unused : List Bool
  pub cyclic_are : Marks (IsCyclic p) (aliases p) cyclic
  pub deep_are : Marks (IsTooDeep p) (aliases p) deep
  pub wide_are : Marks (IsTooWide p) (aliases p) wide
  pub unused_are : Marks (IsUnused p) (aliases p) unused
  pub list : found ≡ found_by p cyclic deep wide unused

-- findings of this class are errors
abbrev pub is_error : Class → Bool
is_error Unused = false
is_error _ = true

-- one of the findings is an error
abbrev pub has_error : List Finding → Bool
has_error found = list_any (λ f. is_error f.class) found

-- two lists of findings of one policy are the same
abbrev pub FoundOnce : Type 0
FoundOnce = (p : Policy) (f g : List Finding) → AreFindings p f → AreFindings p g → f ≡ g
