use Rattle.std.proofs.Common.{◌≡◌, length}
use Rattle.sudo_verdict.specs.Keys.{HaveKeys}
use Rattle.sudo_verdict.proofs.index.keys.member_keys.Given as goal

abbrev pub invariant-loop-member : goal.invariant-loop-member
invariant-loop-member l = record {
  count : length l.keys.items ≡ l.member-index;
  have : HaveKeys l.checked l.kind l.keys.items l.members;
}
