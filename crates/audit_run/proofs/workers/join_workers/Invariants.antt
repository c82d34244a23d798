use Rattle.std.specs.Prelude.{◌≡◌, ℕ, ◌+◌, List, All, vec_len, length}
use Rattle.std.specs.Vec.Iter.{into_iter_items}
use Rattle.audit_run.specs.Names.{names_under}
use Rattle.audit_run.specs.Body.FreshPasses.{fresh}
use Rattle.audit_run.specs.Body.Work.{joined_workers}
use Rattle.audit_run.specs.declared.message.Job.{Job}
use Rattle.audit_run.proofs.workers.join_workers.Given as goal

abbrev pub invariant-loop-handle : goal.invariant-loop-handle
invariant-loop-handle g l =
    All (λ h. h.promise.before.value ≡ fresh l.shared.handoff.now l.shared.policy.now l.shared.directory.now)
    (into_iter_items l.handle-iterator)
    × ((workers : ℕ) × (jobs : List Job)
    × (workers + length (into_iter_items l.handle-iterator) ≡ vec_len l.fn.handles)
    × (l.pass ≡ joined_workers (names_under l.shared.policy.now l.shared.directory.now) l.fn.pass workers jobs))
