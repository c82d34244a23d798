use Rattle.std.specs.Prelude.{◌≡◌, ◌+◌, ◌++◌, length, map, vec_len}
use Rattle.std.specs.List.{zip}
use Rattle.std.specs.Vec.Iter.{into_iter_items}
use Rattle.audit_run.specs.Roster.{indices_in}
use Rattle.audit_run.specs.Body.Work.{part_ahead}
use Rattle.audit_run.proofs.roster.parts_of.Given as goal

abbrev pub invariant-loop-reader : goal.invariant-loop-reader
invariant-loop-reader g l = record {
  parts : map (λ p. part_ahead p.owner (g.F.Feed.ahead p.reader)) l.parts.items ++ zip (indices_in l.roster l.left)
      (map g.F.Feed.ahead (into_iter_items l.reader-iterator)) ≡ zip (indices_in l.roster l.names) (map g.F.Feed.ahead l.fn.readers.items);
  as_many : length l.left ≡ length (into_iter_items l.reader-iterator);
  so_far : vec_len l.parts + length (into_iter_items l.reader-iterator) ≡ vec_len l.fn.readers;
}
