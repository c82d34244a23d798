use Rattle.std.specs.Prelude.{◌≡◌, ◌+◌, ◌≤◌, All, vec_len, vec_capacity, length}
use Rattle.std.specs.Vec.Iter.{into_iter_items}
use Rattle.audit_run.specs.Body.FreshPasses.{fresh}
use Rattle.audit_run.proofs.workers.start_workers.Given as goal

abbrev pub invariant-loop-pass : goal.invariant-loop-pass
invariant-loop-pass g l =
    All (λ p. p ≡ fresh l.shared.handoff.now l.shared.policy.now l.shared.directory.now) (into_iter_items l.pass-iterator)
    × All (λ h. h.promise.before.value ≡ fresh l.shared.handoff.now l.shared.policy.now l.shared.directory.now) l.handles.items
    × (vec_len l.handles + length (into_iter_items l.pass-iterator) ≡ vec_len l.fn.handles + vec_len l.fn.passes)
    × (vec_len l.handles + length (into_iter_items l.pass-iterator) ≤ vec_capacity l.handles)
