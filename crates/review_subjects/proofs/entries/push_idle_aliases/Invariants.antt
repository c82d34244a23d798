use Rattle.std.proofs.Common.{◌≡◌, ◌++◌, drop}
use Rattle.review_subjects.specs.Subjects.{aliases_subjects}
use Rattle.review_subjects.proofs.entries.push_idle_aliases.Given as goal

abbrev pub invariant-loop-definition : goal.invariant-loop-definition
invariant-loop-definition l =
    l.found.items ++ aliases_subjects l.finder.checked.now l.finder.directory.now l.place l.kind (drop l.definition-index l.definitions)
    ≡ l.initial.found.items ++ aliases_subjects l.finder.checked.now l.finder.directory.now l.place l.kind l.definitions
