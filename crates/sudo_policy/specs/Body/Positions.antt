-- The position of the definition in force of each name: definitions that only the proofs of the index need. Only
-- proofs of bodies use these.
use Rattle.std.specs.Prelude.{◌≡◌, ℕ, List, Option, option_and_then, slice_get}
use Rattle.sudo_base.specs.NameIndices.{index_of}
use Rattle.sudo_grammar.specs.declared.kind.Kind.{Kind}
use Rattle.sudo_grammar.specs.declared.kind.Kind.TheVariants.{User, Runas, Host, Cmnd}
use Rattle.sudo_grammar.specs.declared.policy.Policy.{Policy}
use Rattle.sudo_policy.specs.declared.index.Position.{Position}
use Rattle.sudo_policy.specs.declared.index.Index.{Index}
use Rattle.sudo_policy.specs.Definitions.{in_force}
use Rattle.sudo_policy.specs.Positions.{members_at}

-- the names of one kind, each with the number of its definition in force
abbrev pub names_of_kind : Index → Kind → List (List ℕ × ℕ)
names_of_kind index User = index.users
names_of_kind index Runas = index.runas
names_of_kind index Host = index.hosts
names_of_kind index Cmnd = index.commands

-- the position of a name's definition, by the index
abbrev pub position_in : Index → Kind → List ℕ → Option Position
position_in index kind name = option_and_then (slice_get index.positions.items) (index_of (names_of_kind index kind) name)

-- the index yields the position of each definition in force
abbrev pub IsIndex : Policy → Index → Type 0
IsIndex p index = (kind : Kind) (name : List ℕ) → in_force kind p name ≡ option_and_then (members_at p) (position_in index kind name)
