use Rattle.std.proofs.Common.{◌≤◌, length}
use Rattle.review_roots.proofs.host.HostSteps.settled_from.Given as goal

abbrev pub invariant-loop-at : goal.invariant-loop-at
invariant-loop-at l = l.at ≤ length l.listed

abbrev pub decreases-loop-at : goal.decreases-loop-at
decreases-loop-at l = l.at
