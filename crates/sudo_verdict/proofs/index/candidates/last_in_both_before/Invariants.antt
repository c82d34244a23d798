use Rattle.std.proofs.Common.{◌≡◌, ℕ, ◌<◌, ◌≤◌, false}
use Rattle.sudo_verdict.specs.Body.Blocks.{both_have}
use Rattle.sudo_verdict.proofs.index.candidates.last_in_both_before.Given as goal

abbrev pub invariant-loop-end : goal.invariant-loop-end
invariant-loop-end l = record {
  within : l.end ≤ l.fn.end;
  none : (i : ℕ) → l.end ≤ i → i < l.fn.end → both_have l.users l.commands i ≡ false;
}

abbrev pub decreases-loop-end : goal.decreases-loop-end
decreases-loop-end l = l.end
