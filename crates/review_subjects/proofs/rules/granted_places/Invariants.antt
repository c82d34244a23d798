use Rattle.std.proofs.Common.{◌≡◌, ◌++◌, drop}
use Rattle.review_subjects.specs.Body.Places.{granted_places}
use Rattle.review_subjects.proofs.rules.granted_places.Given as goal

abbrev pub invariant-loop-entry : goal.invariant-loop-entry
invariant-loop-entry l =
    l.found.items ++ granted_places l.checked (drop l.entry-index l.entries) ≡ granted_places l.checked l.entries
