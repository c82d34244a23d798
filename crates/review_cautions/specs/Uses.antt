-- Which lists of a policy decide: those of rules and of bound `Defaults` lines, and those of the aliases that these reach.
-- sudoers(5), "Aliases"; visudo(8), which calls the others unused.
use Rattle.std.specs.Prelude.{◌≡◌, ℕ, Bool, not, List, filter, flat_map}
use Rattle.std.specs.List.{list_any, items_where_true}
use Rattle.sudo_text.specs.declared.line.Place.{Place}
use Rattle.sudo_grammar.specs.declared.kind.Kind.{Kind}
use Rattle.sudo_grammar.specs.declared.policy.Definition.{Definition}
use Rattle.sudo_grammar.specs.declared.policy.EntryBody.{EntryBody}
use Rattle.sudo_grammar.specs.declared.policy.EntryBody.TheVariants as entries
use Rattle.sudo_grammar.specs.declared.policy.Entry.{Entry}
use Rattle.sudo_grammar.specs.declared.policy.Policy.{Policy}
use Rattle.sudo_policy.specs.Definitions.{AliasDefinition, MemberList, aliases, defines, lists_of_body, lists_of_list}
use Rattle.sudo_policy.specs.Found.{IsUnused, Marks}

-- one of the aliases has this kind and this name
abbrev pub is_among : List AliasDefinition → Kind → List ℕ → Bool
is_among unused kind name = list_any (defines kind name) unused

-- the definitions of a line but for those of the aliases
abbrev pub without : List AliasDefinition → Kind → List Definition → List Definition
without unused kind ds = filter (λ (d : Definition). not (is_among unused kind d.name)) ds

-- the lists of an entry but for those of the aliases' definitions
abbrev pub deciding_in : List AliasDefinition → Place → EntryBody → List MemberList
deciding_in unused place (entries.Aliases kind definitions) = lists_of_list kind place (without unused kind definitions)
deciding_in unused place body = lists_of_body place body

-- the lists of a policy but for those of the aliases' definitions
abbrev pub deciding_lists : List AliasDefinition → Policy → List MemberList
deciding_lists unused p = flat_map (λ (e : Entry). deciding_in unused e.place e.body) p.entries

-- the lists of a policy but for those of the definitions of unused aliases
pub record AreDeciding (p : Policy) (deciding : List MemberList) : Type 0 where
  pub unused : List Bool
  pub unused_are : Marks (IsUnused p) (aliases p) unused
  pub lists_are : deciding ≡ deciding_lists (items_where_true unused (aliases p)) p
