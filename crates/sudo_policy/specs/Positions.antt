-- The position of the definition in force of each name: definitions that only the proofs of the index need.
use Rattle.std.specs.Prelude.{ℕ, List, Option, None, option_and_then, option_map, slice_get}
use Rattle.sudo_grammar.specs.declared.kind.Member.{Member}
use Rattle.sudo_grammar.specs.declared.policy.Definition.{Definition}
use Rattle.sudo_grammar.specs.declared.policy.Entry.{Entry}
use Rattle.sudo_grammar.specs.declared.policy.EntryBody.{EntryBody}
use Rattle.sudo_grammar.specs.declared.policy.EntryBody.TheVariants.{Aliases, Defaults, Rule, Include}
use Rattle.sudo_grammar.specs.declared.policy.Policy.{Policy}
use Rattle.sudo_policy.specs.declared.index.Position.{Position}

abbrev pub definition_at_body : EntryBody → ℕ → Option (List Member)
definition_at_body (Aliases kind definitions) at = option_map (λ (d : Definition). d.members) (slice_get definitions at)
definition_at_body (Defaults binding parameters) at = None
definition_at_body (Rule users sections) at = None
definition_at_body (Include folder hash path) at = None

-- the members of the definition at a position
abbrev pub members_at : Policy → Position → Option (List Member)
members_at p position = option_and_then (λ (e : Entry). definition_at_body e.body position.definition) (slice_get p.entries position.entry)
