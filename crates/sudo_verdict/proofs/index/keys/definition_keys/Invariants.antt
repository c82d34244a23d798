use Rattle.std.proofs.Common.{◌≡◌, length}
use Rattle.sudo_verdict.specs.Keys.{HaveDefinitionKeys}
use Rattle.sudo_verdict.proofs.index.keys.definition_keys.Given as goal

abbrev pub invariant-loop-definition : goal.invariant-loop-definition
invariant-loop-definition l = record {
  count : length l.keys.items ≡ l.definition-index;
  have : HaveDefinitionKeys l.checked l.kind l.keys.items l.definitions;
}
