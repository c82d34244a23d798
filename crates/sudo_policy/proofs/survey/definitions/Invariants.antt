use Rattle.std.proofs.Common.{◌≡◌, ◌++◌, map, drop}
use Rattle.std.specs.Prelude.{All, flat_map}
use Rattle.sudo_policy.specs.Definitions.{definitions, definitions_of}
use Rattle.sudo_policy.specs.Body.DefinitionRef.{alias_view, IsAtItsPosition}
use Rattle.sudo_policy.proofs.survey.definitions.Given as goal

abbrev pub invariant-loop-at : goal.invariant-loop-at
invariant-loop-at l = record {
  all : map alias_view l.all.items ++ flat_map definitions_of (drop l.at l.policy.entries) ≡ definitions l.policy;
  placed : All (IsAtItsPosition l.policy) l.all.items;
}
