-- Keys that are known, and what they pass over; only proofs of bodies need these definitions.
use Rattle.std.specs.Prelude.{◌≡◌, Bool, false, List, [], Option, Some, None, option_and_then, slice_get, unwrap_or}
use Rattle.sudo_grammar.specs.declared.kind.Atom.{Atom}
use Rattle.sudo_grammar.specs.declared.kind.Kind.{Kind}
use Rattle.sudo_grammar.specs.declared.policy.Policy.{Policy}
use Rattle.sudo_policy.specs.Definitions.{alias_named}
use Rattle.sudo_policy.specs.declared.index.Position.{Position}
use Rattle.sudo_verdict.specs.declared.index.key.Key.{Key}
use Rattle.sudo_verdict.specs.declared.index.key.EntryKeys.{EntryKeys}
use Rattle.sudo_verdict.specs.declared.index.keys.Keys.{Keys as TheKeys}
use Rattle.sudo_verdict.specs.Keys.{IsKeyOf, AreKeys}

-- each atom of the key is no alias, and fails the test
abbrev pub IsPassed : (Atom → Bool) → Key → Type 0
IsPassed test key = (p : Policy) (kind : Kind) (a : Atom) → IsKeyOf p kind key a → (alias_named a ≡ None) × (test a ≡ false)

-- the keys, if there are any, are those of the policy
abbrev pub AreKnown : Policy → Option TheKeys → Type 0
AreKnown p keys = (k : TheKeys) → keys ≡ Some k → AreKeys p k.rows

-- the keys of the definition at a position; none if there is none
abbrev pub keys_at : List EntryKeys → Position → List Key
keys_at rows position =
    unwrap_or (option_and_then (λ (ks : EntryKeys). slice_get ks.definitions position.definition) (slice_get rows position.entry)) []
