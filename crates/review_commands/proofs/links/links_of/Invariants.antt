use Rattle.std.proofs.Common.{◌≡◌, ◌++◌, map}
use Rattle.std.specs.Vec.Iter.{into_iter_items}
use Rattle.review_commands.specs.MachineFiles.{link_of_paths}
use Rattle.review_commands.proofs.links.links_of.Given as goal

abbrev pub invariant-loop-paths : goal.invariant-loop-paths
invariant-loop-paths l = record {
  can_next : (goal.iterator-loop-paths).can_next l.paths-iterator;
  is_finite : (goal.iterator-loop-paths).is_finite l.paths-iterator;
  left : l.links.items ++ map link_of_paths (into_iter_items l.paths-iterator) ≡ map link_of_paths l.fn.rows.items;
}
