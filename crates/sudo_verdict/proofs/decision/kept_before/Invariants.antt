use Rattle.std.proofs.Common.{ℕ, ◌<◌, ◌≤◌}
use Rattle.std.specs.Prelude.{slice_get, unwrap_or}
use Rattle.sudo_verdict.specs.Body.Known.{IsPassed}
use Rattle.sudo_verdict.specs.declared.index.key.Key.TheVariants as key
use Rattle.sudo_verdict.proofs.decision.kept_before.Given as goal

-- the keys from there on are passed over
abbrev pub invariant-loop-end : goal.invariant-loop-end
invariant-loop-end g l = record {
  within : l.end ≤ l.fn.end;
  passed : (i : ℕ) → l.end ≤ i → i < l.fn.end → IsPassed (g.S.Subject.fits l.subject) (unwrap_or (slice_get l.keys i) key.Other);
}

abbrev pub decreases-loop-end : goal.decreases-loop-end
decreases-loop-end g l = l.end
