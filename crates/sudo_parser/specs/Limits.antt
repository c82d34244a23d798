-- The limit on definitions.
use Rattle.std.specs.Prelude.{ℕ, ◌-◌, length, if◌then◌else◌}
use Rattle.sudo_grammar.specs.declared.kind.Kind.{Kind}
use Rattle.sudo_grammar.specs.declared.policy.EntryBody.{EntryBody}
use Rattle.sudo_grammar.specs.declared.policy.EntryBody.TheVariants as bodies
use Rattle.sudo_grammar.specs.Kinds.{same_kind}

-- the number of aliases of a kind that a line defines
abbrev pub definition_count : Kind → EntryBody → ℕ
definition_count kind (bodies.Aliases k definitions) = if same_kind k kind then length definitions else 0
definition_count kind _ = 0

-- the room that is left after an entry
abbrev pub less : (Kind → ℕ) → EntryBody → Kind → ℕ
less room body kind = room kind - definition_count kind body
