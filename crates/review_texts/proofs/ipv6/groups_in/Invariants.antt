use Rattle.std.proofs.Common.{◌≡◌, ◌<◌, ◌≤◌, ◌^◌, [], length}
use Rattle.review_texts.specs.Ipv6.{groups_after}
use Rattle.review_texts.proofs.ipv6.groups_in.Given as goal

abbrev pub invariant-loop-byte : goal.invariant-loop-byte
invariant-loop-byte l = record {
  low : l.value < 16 ^ l.count;
  short : l.count ≤ 4;
  rest : groups_after l.done l.count l.value l.left ≡ groups_after [] 0 0 l.fn.text;
}

abbrev pub decreases-loop-byte : goal.decreases-loop-byte
decreases-loop-byte l = length l.left
