-- Policies whose aliases are as they must be. visudo(8), strict mode; the limits are this program's.
use Rattle.std.specs.Prelude.{◌≡◌, ℕ, ◌<◌, ◌≤◌, List, ◌∷◌, ◌++◌, Contains, IsSome}
use Rattle.sudo_grammar.specs.declared.policy.Policy.{Policy}
use Rattle.sudo_policy.specs.Definitions.{AliasDefinition, definitions, in_force, lists, MemberList, names_used, Reaches}
use Rattle.sudo_policy.specs.Following.{depth, ReadsAs, width}

pub record HasSoundAliases (p : Policy) : Type 0 where
  -- no definition has the kind and the name of an earlier one
  pub once : (before after : List AliasDefinition) (d e : AliasDefinition) → definitions p ≡ before ++ d ∷ after
      → Contains before e → e.kind ≡ d.kind → e.name ≡ d.name → ⊥
  -- each name that a list uses is defined
  pub defined : (l : MemberList) (name : List ℕ) → Contains (lists p) l → Contains (names_used l.members) name
      → IsSome (in_force l.kind p name)
  -- no alias reaches itself
  pub acyclic : (d : AliasDefinition) → Contains (definitions p) d → Reaches p d.kind d.name d.name → ⊥
  -- at most 64 aliases are on a chain, the first one counted, and at most 65,536 members are written out for one
  pub shallow : (d : AliasDefinition) (behind : ℕ) → Contains (definitions p) d → ReadsAs depth d.kind p d.members behind
      → behind < 64
  pub narrow : (d : AliasDefinition) (members : ℕ) → Contains (definitions p) d → ReadsAs width d.kind p d.members members
      → members ≤ 65536
