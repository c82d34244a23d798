use Rattle.std.proofs.Common.{◌≡◌, drop}
use Rattle.std.specs.List.{list_any}
use Rattle.review_subjects.specs.Reach.{section_reaches}
use Rattle.review_subjects.proofs.reach.sections_reach.Given as goal

abbrev pub invariant-loop-section : goal.invariant-loop-section
invariant-loop-section l =
    list_any (section_reaches l.checked l.directory) (drop l.section-index l.sections)
    ≡ list_any (section_reaches l.checked l.directory) l.sections
