use Rattle.std.proofs.Common.{◌≡◌}
use Rattle.std.specs.Vec.Iter.{into_iter_items}
use Rattle.run_base.specs.Holding.{file_at}
use Rattle.run_base.proofs.loading.read_text.Given as goal

abbrev pub invariant-loop-supply : goal.invariant-loop-supply
invariant-loop-supply l = record {
  can_next : (goal.iterator-loop-supply).can_next l.supply-iterator;
  is_finite : (goal.iterator-loop-supply).is_finite l.supply-iterator;
  left : file_at l.fn.supplies.items l.path ≡ file_at (into_iter_items l.supply-iterator) l.path;
}
