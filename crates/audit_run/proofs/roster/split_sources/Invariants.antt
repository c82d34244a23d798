use Rattle.std.specs.Prelude.{◌≡◌, ◌+◌, ◌++◌, length, map, vec_len}
use Rattle.std.specs.Vec.Iter.{into_iter_items}
use Rattle.audit_run.proofs.roster.split_sources.Given as goal

abbrev pub invariant-loop-source : goal.invariant-loop-source
invariant-loop-source g l = record {
  names : l.names.items ++ map (λ s. s.name) (into_iter_items l.source-iterator) ≡ map (λ s. s.name) l.fn.sources.items;
  readers : l.readers.items ++ map (λ s. s.reader) (into_iter_items l.source-iterator) ≡ map (λ s. s.reader) l.fn.sources.items;
  as_many_names : vec_len l.names + length (into_iter_items l.source-iterator) ≡ vec_len l.fn.sources;
  as_many_readers : vec_len l.readers + length (into_iter_items l.source-iterator) ≡ vec_len l.fn.sources;
}
