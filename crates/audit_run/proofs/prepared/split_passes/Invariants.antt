use Rattle.std.specs.Prelude.{◌≡◌, All, vec_len}
use Rattle.audit_run.specs.Passes.{split_off}
use Rattle.audit_run.specs.Body.FreshPasses.{after_splits}
use Rattle.audit_run.proofs.prepared.split_passes.Given as goal

abbrev pub invariant-loop-index : goal.invariant-loop-index
invariant-loop-index g l =
    (l.pass ≡ after_splits l.fn.pass l._index)
    × (vec_len l.passes ≡ l._index)
    × All (λ p. p ≡ split_off l.fn.pass) l.passes.items
