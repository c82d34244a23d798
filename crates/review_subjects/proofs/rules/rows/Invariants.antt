use Rattle.std.proofs.Common.{◌≡◌, ◌++◌, drop, map}
use Rattle.review_subjects.specs.Body.Places.{tallied}
use Rattle.review_subjects.proofs.rules.rows.Given as goal

abbrev pub invariant-loop-place : goal.invariant-loop-place
invariant-loop-place l =
    l.rows.items ++ map (tallied l.tallies) (drop l.place-index l.places) ≡ map (tallied l.tallies) l.places
