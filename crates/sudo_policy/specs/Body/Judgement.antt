-- The judgement of each alias in force: definitions that only proofs need.
use Rattle.std.specs.Prelude.{◌≡◌, ℕ, Bool, true, false, nat_lt, List, [], ◌∷◌, ◌++◌, Option, Some, None, is_none}
use Rattle.std.specs.Prelude.{map, flat_map, slice_get, if◌then◌else◌}
use Rattle.std.specs.List.{items_where_true}
use Rattle.sudo_base.specs.NameIndices.{index_of}
use Rattle.sudo_text.specs.declared.line.Place.{Place}
use Rattle.sudo_grammar.specs.declared.kind.Kind.{Kind}
use Rattle.sudo_grammar.specs.declared.kind.Member.{Member}
use Rattle.sudo_grammar.specs.declared.policy.Policy.{Policy}
use Rattle.sudo_policy.specs.declared.examination.AliasMarks.{AliasMarks}
use Rattle.sudo_policy.specs.declared.finding.Class.TheVariants.{Redefined, Undefined, Cycle, TooDeep, TooWide, Unused}
use Rattle.sudo_policy.specs.declared.finding.Finding.{Finding}
use Rattle.sudo_policy.specs.declared.graph.State.{State}
use Rattle.sudo_policy.specs.declared.graph.State.TheVariants.{New, Open, Done, Looped}
use Rattle.sudo_policy.specs.declared.index.Index.{Index}
use Rattle.sudo_policy.specs.Definitions.{AliasDefinition, MemberList, aliases, alias_named}
use Rattle.sudo_policy.specs.Following.{ReadsAs, depth}
use Rattle.sudo_policy.specs.Found.{finding_on, Marks, IsCyclic, IsTooDeep, IsTooWide, IsUnused}
use Rattle.sudo_policy.specs.Body.Positions.{names_of_kind}

abbrev pub is_deep : State → Bool
is_deep New = false
is_deep Open = false
is_deep (Done a) = nat_lt 63 a.depth
is_deep Looped = false

abbrev pub is_wide : State → Bool
is_wide New = false
is_wide Open = false
is_wide (Done a) = nat_lt 65536 a.width
is_wide Looped = false

-- a finding for the use of a name without a definition
abbrev pub use_missing : Index → Kind → Place → List ℕ → List Finding
use_missing index kind place name =
    if is_none (index_of (names_of_kind index kind) name) then record {
      class = Undefined;
      place = place;
      kind = kind;
      name = name;
    } ∷ [] else []

abbrev pub atom_missing : Index → Kind → Place → Option (List ℕ) → List Finding
atom_missing index kind place None = []
atom_missing index kind place (Some name) = use_missing index kind place name

-- the findings for the uses in a list of names without a definition, member by member
abbrev pub missing_in : Index → MemberList → List Finding
missing_in index l = flat_map (λ (m : Member). atom_missing index l.kind l.place (alias_named m.atom)) l.members

-- the findings, class by class, with those on undefined names
abbrev pub found_in : List Finding → List AliasDefinition → List AliasDefinition → AliasMarks → List Finding
found_in undefined aliases redefinitions judged =
    map (finding_on Redefined) redefinitions
    ++ (undefined
    ++ (map (finding_on Cycle) (items_where_true judged.cyclic.items aliases)
    ++ (map (finding_on TooDeep) (items_where_true judged.deep.items aliases)
    ++ (map (finding_on TooWide) (items_where_true judged.wide.items aliases)
    ++ map (finding_on Unused) (items_where_true judged.unused.items aliases)))))

-- if no alias is on a cycle, each definition in force has a depth
abbrev pub HaveDepths : Policy → List Bool → Type 0
HaveDepths p cyclic = ((i : ℕ) → slice_get cyclic i ≡ Some true → ⊥) → (i : ℕ) (d : AliasDefinition)
    → slice_get (aliases p) i ≡ Some d → (n : ℕ) × ReadsAs depth d.kind p d.members n

pub record AreAliasMarks (p : Policy) (judged : AliasMarks) : Type 0 where
  pub cyclic_are : Marks (IsCyclic p) (aliases p) judged.cyclic.items
  pub deep_are : Marks (IsTooDeep p) (aliases p) judged.deep.items
  pub wide_are : Marks (IsTooWide p) (aliases p) judged.wide.items
  pub unused_are : Marks (IsUnused p) (aliases p) judged.unused.items
  pub have_depths : HaveDepths p judged.cyclic.items
