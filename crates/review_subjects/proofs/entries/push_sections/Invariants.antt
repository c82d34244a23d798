use Rattle.std.proofs.Common.{◌≡◌, ◌++◌, drop, flat_map}
use Rattle.review_subjects.specs.Subjects.{section_subjects}
use Rattle.review_subjects.proofs.entries.push_sections.Given as goal

abbrev pub invariant-loop-section : goal.invariant-loop-section
invariant-loop-section l =
    l.found.items ++ flat_map (section_subjects l.directory l.place) (drop l.section-index l.sections)
    ≡ l.initial.found.items ++ flat_map (section_subjects l.directory l.place) l.sections
