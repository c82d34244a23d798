use Rattle.std.proofs.Common.{◌≡◌, ◌++◌, drop, flat_map}
use Rattle.review_subjects.specs.Body.Places.{section_places}
use Rattle.review_subjects.proofs.rules.push_sections.Given as goal

abbrev pub invariant-loop-section : goal.invariant-loop-section
invariant-loop-section l =
    l.found.items ++ flat_map (section_places l.checked l.place) (drop l.section-index l.sections)
    ≡ l.initial.found.items ++ flat_map (section_places l.checked l.place) l.sections
