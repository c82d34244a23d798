-- The lists of a checked policy resolve, part by part.
use Rattle.std.proofs.Common.{◌≡◌, true, List, sym, ◌∙◌}
use Rattle.std.specs.List.{All, list_all}
use Rattle.std.specs.Prelude.{IsTrue}
use Rattle.std.proofs.lemmas.List.Folds.{list_all-map}
use Rattle.std.proofs.lemmas.List.Sums.{AllPass-from_list_all}
use Rattle.sudo_text.specs.declared.line.Place.{Place}
use Rattle.sudo_grammar.specs.declared.kind.Kind.{Kind}
use Rattle.sudo_grammar.specs.declared.policy.Definition.{Definition}
use Rattle.sudo_grammar.specs.declared.policy.Entry.{Entry}
use Rattle.sudo_grammar.specs.declared.policy.Policy.{Policy}
use Rattle.sudo_policy.specs.Definitions.{list_in, lists_of_list}
use Rattle.sudo_policy.specs.Resolving.{IsSound}
use Rattle.sudo_policy.specs.Resolving.{resolves}
use Rattle.sudo_policy.specs.Body.Resolving.{command_resolves, section_resolves}
use Rattle.sudo_policy.proofs.SoundLemmas.{entries-resolve, all_weaker}
use Rattle.std.proofs.lemmas.Bool.{and_parts}
use Rattle.sudo_grammar.specs.declared.kind.Kind.TheVariants.{Host}
use Rattle.sudo_grammar.specs.declared.policy.CommandSpec.{CommandSpec}
use Rattle.sudo_grammar.specs.declared.policy.Section.{Section}
use Rattle.review_subjects.specs.Subjects.{entry_resolves, definition_resolves, list_resolves}

pub entries_resolve : (p : Policy) → IsSound p → All (λ (e : Entry). IsTrue (entry_resolves p e)) p.entries
entries_resolve p sound = AllPass-from_list_all (entry_resolves p) p.entries (entries-resolve p sound)

pub definitions_resolve : (p : Policy) (kind : Kind) (place : Place) (ds : List Definition)
    → list_all (list_resolves p) (lists_of_list kind place ds) ≡ true
    → All (λ (x : Definition). IsTrue (definition_resolves p kind x)) ds
definitions_resolve p kind place ds h =
    AllPass-from_list_all (definition_resolves p kind) ds
    (sym (list_all-map (list_resolves p) (list_in kind place) ds) ∙ h)

pub commands_resolve : (p : Policy) (cs : List CommandSpec) → list_all (command_resolves p) cs ≡ true
    → All (λ (c : CommandSpec). IsTrue (command_resolves p c)) cs
commands_resolve p cs h = AllPass-from_list_all (command_resolves p) cs h

pub sections_resolve : (p : Policy) (ss : List Section) → list_all (section_resolves p) ss ≡ true
    → All (λ (s : Section). IsTrue (section_resolves p s)) ss
sections_resolve p ss h = AllPass-from_list_all (section_resolves p) ss h

pub section_commands_resolve : (p : Policy) (ss : List Section) → list_all (section_resolves p) ss ≡ true
    → All (λ (s : Section). IsTrue (list_all (command_resolves p) s.commands)) ss
section_commands_resolve p ss h =
    AllPass-from_list_all (λ (s : Section). list_all (command_resolves p) s.commands) ss
    (all_weaker (section_resolves p) (λ (s : Section). list_all (command_resolves p) s.commands)
    (λ s k. (and_parts (resolves Host p s.hosts) (list_all (command_resolves p) s.commands) k).1) ss h)
