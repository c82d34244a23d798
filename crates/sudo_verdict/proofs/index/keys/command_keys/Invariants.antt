use Rattle.std.proofs.Common.{◌≡◌, length}
use Rattle.sudo_verdict.specs.Keys.{HaveCommandKeys}
use Rattle.sudo_verdict.proofs.index.keys.command_keys.Given as goal

abbrev pub invariant-loop-spec : goal.invariant-loop-spec
invariant-loop-spec l = record {
  count : length l.keys.items ≡ l.spec-index;
  have : HaveCommandKeys l.checked l.keys.items l.commands;
}
