use Rattle.std.proofs.Common.{◌≡◌, ◌++◌, drop}
use Rattle.review_subjects.specs.Body.Places.{atom_places}
use Rattle.review_subjects.proofs.rules.push_places.Given as goal

abbrev pub invariant-loop-atom : goal.invariant-loop-atom
invariant-loop-atom l =
    l.found.items ++ atom_places l.place (drop l.atom-index l.atoms) ≡ l.initial.found.items ++ atom_places l.place l.atoms
