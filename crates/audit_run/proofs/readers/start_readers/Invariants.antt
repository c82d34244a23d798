use Rattle.std.specs.Prelude.{◌≡◌, ◌+◌, ◌≤◌, ◌++◌, All, map, vec_len, vec_capacity, length}
use Rattle.std.specs.Vec.Iter.{into_iter_items}
use Rattle.audit_run.specs.Body.FreshPasses.{IsFresh}
use Rattle.audit_run.specs.Body.Work.{part_ahead}
use Rattle.audit_run.proofs.readers.start_readers.Given as goal

abbrev pub invariant-loop-part : goal.invariant-loop-part
invariant-loop-part g l = record {
  free : All (λ p. IsFresh l.shared.handoff.now p) l.passes.items;
  enough : vec_len l.passes ≡ length (into_iter_items l.part-iterator);
  fresh : All (λ h. IsFresh l.shared.handoff.now h.promise.before.value) l.handles.items;
  room : vec_len l.handles + length (into_iter_items l.part-iterator) ≤ vec_capacity l.handles;
  started : vec_len l.handles + length (into_iter_items l.part-iterator) ≡ vec_len l.fn.parts;
  readable_bytes : map (λ h. part_ahead h.promise.owner (g.F.Feed.ahead h.promise.reader.value)) l.handles.items
      ++ map (λ p. part_ahead p.owner (g.F.Feed.ahead p.reader)) (into_iter_items l.part-iterator) ≡ map
      (λ p. part_ahead p.owner (g.F.Feed.ahead p.reader)) l.fn.parts.items;
}
