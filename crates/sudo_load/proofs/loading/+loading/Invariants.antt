use Rattle.std.proofs.Common.{◌+◌, ◌*◌}
use Rattle.std.specs.Vec.Iter.{into_iter_items}
use Rattle.sudo_load.specs.Unfolding.{FileLoads, FilesLoad, EntriesLoad, Outcome}
use Rattle.sudo_load.proofs.loading.+loading.Given as goal

abbrev pub decreases-load_file : goal.decreases-load_file
decreases-load_file l = 6 * l.levels

abbrev pub decreases-load_files : goal.decreases-load_files
decreases-load_files l = 6 * l.levels + 1

abbrev pub decreases-load_folder : goal.decreases-load_folder
decreases-load_folder l = 6 * l.levels + 2

abbrev pub decreases-load_entry : goal.decreases-load_entry
decreases-load_entry l = 6 * l.levels + 3

abbrev pub decreases-load_entries : goal.decreases-load_entries
decreases-load_entries l = 6 * l.levels + 4

abbrev pub decreases-load_text : goal.decreases-load_text
decreases-load_text l = 6 * l.levels + 5

abbrev pub invariant-load_files-loop-path : goal.invariant-load_files-loop-path
invariant-load_files-loop-path l = record {
  can_next : (goal.iterator-load_files-loop-path).can_next l.path-iterator;
  is_finite : (goal.iterator-load_files-loop-path).is_finite l.path-iterator;
  left : (outcome : Outcome) → FilesLoad (FileLoads l.fn.levels l.fn.supplies) l.loaded l.fn.place (into_iter_items l.path-iterator) outcome
      → FilesLoad (FileLoads l.fn.levels l.fn.supplies) l.fn.loaded l.fn.place l.fn.paths.items outcome;
}

abbrev pub invariant-load_entries-loop-entry : goal.invariant-load_entries-loop-entry
invariant-load_entries-loop-entry l = record {
  can_next : (goal.iterator-load_entries-loop-entry).can_next l.entry-iterator;
  is_finite : (goal.iterator-load_entries-loop-entry).is_finite l.entry-iterator;
  left : (outcome : Outcome) → EntriesLoad (FileLoads l.fn.levels l.fn.supplies) l.fn.supplies l.fn.file l.loaded
      (into_iter_items l.entry-iterator) outcome
      → EntriesLoad (FileLoads l.fn.levels l.fn.supplies) l.fn.supplies l.fn.file l.fn.loaded l.fn.entries.items outcome;
}
