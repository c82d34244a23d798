use Rattle.std.proofs.Common.{◌+◌, ◌*◌, ◌≤◌, drop, length}
use Rattle.sudo_policy.proofs.StateLemmas.{new_count, Visiting}
use Rattle.sudo_policy.proofs.graph.+visiting.Given as goal

abbrev pub decreases-visit : goal.decreases-visit
decreases-visit l = 2 * new_count l.states.now

abbrev pub decreases-visit_link : goal.decreases-visit_link
decreases-visit_link l = 2 * new_count l.states.now + 1

abbrev pub invariant-visit-loop-at : goal.invariant-visit-loop-at
invariant-visit-loop-at l = record {
  within : l.at ≤ length l.row;
  visiting : Visiting l.links l.fn.states l.node l.states (drop l.at l.row) l.measure;
}

abbrev pub decreases-visit-loop-at : goal.decreases-visit-loop-at
decreases-visit-loop-at l = l.at
