use Rattle.std.proofs.Common.{◌≡◌, ◌++◌, flat_map, take}
use Rattle.review_grants.specs.Body.Noted.{section_notes}
use Rattle.review_grants.proofs.noted.push_sections.Given as goal

-- the notes of the sections so far were found
abbrev pub invariant-loop-section : goal.invariant-loop-section
invariant-loop-section l =
    l.found.items ≡ l.fn.found.items ++ flat_map (section_notes l.checked l.place) (take l.section-index l.sections)
