-- Lists written out, by equations. sudoers(5), "Aliases".
use Rattle.std.specs.Prelude.{◌≡◌, ℕ, List, [], ◌∷◌, ◌++◌, map, None, Some, Contains}
use Rattle.sudo_grammar.specs.declared.kind.Atom.TheVariants.{Alias}
use Rattle.sudo_grammar.specs.declared.kind.Kind.{Kind}
use Rattle.sudo_grammar.specs.declared.kind.Member.{Member}
use Rattle.sudo_grammar.specs.declared.kind.Signed.{Signed}
use Rattle.sudo_grammar.specs.declared.policy.Policy.{Policy}
use Rattle.sudo_policy.specs.Definitions.{alias_named, in_force, lists, MemberList}
use Rattle.sudo_policy.specs.Written.{is_negated, negated_if}

-- a function writes the lists of a policy out
pub record WritesOut (p : Policy) (write : Kind → List Member → List Signed) : Type 0 where
  -- nothing, and two lists one after the other
  pub nothing : (kind : Kind) → write kind [] ≡ []
  pub both : (kind : Kind) (first second : List Member) → write kind (first ++ second) ≡ write kind first ++ write kind second
  -- an atom is itself, with its sign
  pub atom : (kind : Kind) (m : Member) → alias_named m.atom ≡ None
      → write kind (m ∷ []) ≡ record { negated = is_negated m; atom = m.atom } ∷ []
  -- an alias in a list of the policy is its definition written out, with each sign turned if the alias is negated
  pub alias : (l : MemberList) (m : Member) (name : List ℕ) (definition : List Member) → Contains (lists p) l
      → Contains l.members m → m.atom ≡ Alias name → in_force l.kind p name ≡ Some definition
      → write l.kind (m ∷ []) ≡ map (negated_if (is_negated m)) (write l.kind definition)
