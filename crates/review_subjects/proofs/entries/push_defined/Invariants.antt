use Rattle.std.proofs.Common.{◌≡◌, ◌++◌, drop}
use Rattle.review_subjects.specs.Subjects.{defined_subjects}
use Rattle.review_subjects.proofs.entries.push_defined.Given as goal

abbrev pub invariant-loop-definition : goal.invariant-loop-definition
invariant-loop-definition l =
    l.found.items ++ defined_subjects l.directory l.place l.role (drop l.definition-index l.definitions)
    ≡ l.initial.found.items ++ defined_subjects l.directory l.place l.role l.definitions
