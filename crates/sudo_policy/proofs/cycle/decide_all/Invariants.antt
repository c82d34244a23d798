use Rattle.std.proofs.Common.{◌≡◌, ◌<◌, ℕ, length, replicate, true}
use Rattle.sudo_policy.specs.Body.Marking.{DecidesCycles, IsMarked}
use Rattle.sudo_policy.proofs.cycle.decide_all.Given as goal

abbrev pub invariant-loop-node : goal.invariant-loop-node
invariant-loop-node l = record {
  decided : DecidesCycles l.links l.done l.cyclic;
  aside : l.aside ≡ replicate (length l.links) true;
}

abbrev pub invariant-loop-node-2 : goal.invariant-loop-node-2
invariant-loop-node-2 l = record {
  decided : DecidesCycles l.links l.done l.cyclic;
  aside : l.aside ≡ replicate (length l.links) true;
  done : (i : ℕ) → i < l.node → IsMarked l.done i;
}
