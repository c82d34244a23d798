use Rattle.std.proofs.Common.{◌≡◌, ◌++◌, map, drop}
use Rattle.std.specs.Prelude.{All}
use Rattle.sudo_grammar.specs.declared.policy.Policy.{Policy}
use Rattle.sudo_policy.specs.Definitions.{definitions_of_list}
use Rattle.sudo_policy.specs.Body.DefinitionRef.{alias_view, IsAtItsPosition, StandAt}
use Rattle.sudo_policy.proofs.survey.push_definitions.Given as goal

abbrev pub invariant-loop-at : goal.invariant-loop-at
invariant-loop-at l = record {
  all : map alias_view l.all.items ++ definitions_of_list l.kind l.place (drop l.at l.definitions) ≡ map alias_view
      l.initial.all.items ++ definitions_of_list l.kind l.place l.definitions;
  placed : (p : Policy) → StandAt p l.entry l.definitions → All (IsAtItsPosition p) l.initial.all.items
      → All (IsAtItsPosition p) l.all.items;
}
