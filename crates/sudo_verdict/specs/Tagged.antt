-- The tags and the runas of a command: what stands before a command holds for the later commands of its section.
-- sudoers(5), "Tag_Spec" and "Runas_Spec".
use Rattle.std.specs.Prelude.{ℕ, ◌+◌, Bool, true, if◌then◌else◌, List, [], ◌∷◌, map, take, zip, flat_map, Option, Some, None}
use Rattle.std.specs.Option.{option_or}
use Rattle.sudo_grammar.specs.declared.tag.Tag.{Tag}
use Rattle.sudo_grammar.specs.declared.tag.TagPair.{TagPair}
use Rattle.sudo_grammar.specs.declared.tag.TagPair.TheVariants as pair
use Rattle.sudo_grammar.specs.declared.policy.CommandSpec.{CommandSpec}
use Rattle.sudo_grammar.specs.declared.policy.Runas.{Runas}
use Rattle.sudo_grammar.specs.Tags.{pairs, same_pair}
use Rattle.sudo_match.specs.declared.request.Tags.{Tags}
use Rattle.sudo_verdict.specs.Last.{last_set}

-- what a tag chooses for a pair, if it is one of that pair
abbrev pub choice_of : TagPair → Tag → Option Bool
choice_of p tag = if same_pair p tag.pair then Some tag.on else None

-- for each pair, which of its two tags is named last
unfoldable pub tags_named : List Tag → Tags
tags_named tags = record { choices = map (λ p. last_set (map (choice_of p) tags)) pairs }

-- for each pair, the first choice, or else the second
abbrev pub or_tags : Tags → Tags → Tags
or_tags t u = record { choices = map (λ c. option_or c.0 c.1) (zip t.choices u.choices) }

-- for each pair, which of its tags is named last at one of these commands
unfoldable pub tags_before : List CommandSpec → Tags
tags_before commands = tags_named (flat_map (λ c. c.tags) commands)

-- the runas named last at one of these commands
unfoldable pub runas_before : List CommandSpec → Option Runas
runas_before commands = last_set (map (λ c. c.runas) commands)

-- for each pair, which of its tags is named last at a command up to i of the section, counted from 0
unfoldable pub tags_at : List CommandSpec → ℕ → Tags
tags_at commands i = tags_before (take (i + 1) commands)

-- the runas named last at a command up to i of the section
unfoldable pub runas_at : List CommandSpec → ℕ → Option Runas
runas_at commands i = runas_before (take (i + 1) commands)

-- the tag SETENV
abbrev pub setenv : Tag
setenv = record { pair = pair.SetEnv; on = true }

-- SETENV is added where the command is ALL and neither SETENV nor NOSETENV is set
abbrev pub tags_given : Bool → Tags → Tags
tags_given all tags = if all then or_tags tags (tags_named (setenv ∷ [])) else tags
