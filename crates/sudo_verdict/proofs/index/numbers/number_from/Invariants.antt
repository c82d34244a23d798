use Rattle.std.proofs.Common.{◌≡◌, ◌<◌, length}
use Rattle.sudo_verdict.specs.Numbers.{number_from}
use Rattle.sudo_verdict.proofs.index.numbers.number_from.Given as goal

abbrev pub invariant-loop-byte : goal.invariant-loop-byte
invariant-loop-byte l = record {
  below : l.number < 16384;
  same : number_from l.seed l.name ≡ number_from l.number l.left;
}

abbrev pub decreases-loop-byte : goal.decreases-loop-byte
decreases-loop-byte l = length l.left
