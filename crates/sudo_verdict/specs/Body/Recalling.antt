-- The decisions of aliases that are remembered while a list is decided; only proofs of bodies need these definitions.
use Rattle.std.specs.Prelude.{◌≡◌, ℕ, ◌<◌, Bool, List, Option, Some, None, slice_get}
use Rattle.sudo_base.specs.NameIndices.{index_of}
use Rattle.sudo_grammar.specs.declared.kind.Kind.{Kind}
use Rattle.sudo_grammar.specs.declared.kind.Atom.{Atom}
use Rattle.sudo_grammar.specs.declared.kind.Member.{Member}
use Rattle.sudo_grammar.specs.declared.policy.Policy.{Policy}
use Rattle.sudo_policy.specs.Definitions.{in_force}
use Rattle.sudo_verdict.specs.declared.decision.Decision.{Decision}
use Rattle.sudo_verdict.specs.Decided.{list_decision}

-- each number is that of one name at most
abbrev pub IsOneToOne : List (List ℕ × ℕ) → Type 0
IsOneToOne names = (a b : List ℕ) (n : ℕ) → index_of names a ≡ Some n → index_of names b ≡ Some n → a ≡ b

-- each name has a number of its own, below count
pub record IsNumbering (names : List (List ℕ × ℕ)) (count : ℕ) : Type 0 where
  pub below : (a : List ℕ) (n : ℕ) → index_of names a ≡ Some n → n < count
  pub apart : IsOneToOne names

-- the number of a name, if names have numbers and it has one
abbrev pub number_in : Option (List (List ℕ × ℕ)) → List ℕ → Option ℕ
number_in None name = None
number_in (Some names) name = index_of names name

-- each remembered decision is that of the list of its alias
abbrev pub Recalls : Kind → Policy → Option (List (List ℕ × ℕ)) → (Atom → Bool) → List (Option (Option Decision)) → Type 0
Recalls kind p names test slots =
    (name : List ℕ) (n : ℕ) (ds : List Member) (o : Option Decision) → number_in names name ≡ Some n → slice_get slots n ≡ Some (Some o) →
    in_force kind p name ≡ Some ds → o ≡ list_decision kind p ds test

-- if names have numbers, each number is that of one name at most
abbrev pub HasOneNamePerNumber : Option (List (List ℕ × ℕ)) → Type 0
HasOneNamePerNumber names = (a b : List ℕ) (n : ℕ) → number_in names a ≡ Some n → number_in names b ≡ Some n → a ≡ b
