use Rattle.std.proofs.Common.{◌≡◌, ◌++◌, drop, flat_map}
use Rattle.review_subjects.specs.Subjects.{entry_subjects}
use Rattle.review_subjects.proofs.collecting.push_entries.Given as goal

abbrev pub invariant-loop-entry : goal.invariant-loop-entry
invariant-loop-entry l =
    l.found.items ++ flat_map (entry_subjects l.finder.checked.now l.finder.directory.now) (drop l.entry-index l.entries)
    ≡ l.initial.found.items ++ flat_map (entry_subjects l.finder.checked.now l.finder.directory.now) l.entries
