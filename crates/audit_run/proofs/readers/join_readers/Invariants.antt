use Rattle.std.specs.Prelude.{◌≡◌, ℕ, ◌+◌, ◌≤◌, ◌++◌, List, All, Option, map, vec_len, vec_capacity, length}
use Rattle.std.specs.Vec.Iter.{into_iter_items}
use Rattle.audit_files.specs.Feeding.{Ahead}
use Rattle.audit_run.specs.declared.message.Job.{Job}
use Rattle.audit_run.specs.Parts.{HavePut, Stated, fault_in}
use Rattle.audit_run.specs.Body.FreshPasses.{IsFresh}
use Rattle.audit_run.specs.Body.Work.{AreParts, joined_sources, part_ahead}
use Rattle.audit_run.proofs.readers.join_readers.Given as goal

abbrev pub invariant-loop-handle : goal.invariant-loop-handle
invariant-loop-handle g l =
    All (λ h. IsFresh l.handoff h.promise.before.value) (into_iter_items l.handle-iterator)
    × (vec_len l.faults + length (into_iter_items l.handle-iterator) ≤ vec_capacity l.faults)
    × ((done : List (ℕ × Option Ahead)) × (parts : List (ℕ × Stated)) × (put : List Job) × (sources : ℕ)
    × AreParts done parts
    × (done ++ map (λ h. part_ahead h.promise.owner (g.F.Feed.ahead h.promise.reader.value))
    (into_iter_items l.handle-iterator) ≡ map
    (λ h. part_ahead h.promise.owner (g.F.Feed.ahead h.promise.reader.value)) l.fn.handles.items)
    × (sources + length (into_iter_items l.handle-iterator) ≡ vec_len l.fn.handles)
    × (l.pass ≡ joined_sources l.fn.pass sources put)
    × HavePut parts put
    × (l.faults.items ≡ map (λ part. fault_in part.1) parts))
