use Rattle.std.proofs.Common.{◌≡◌, unwrap_or, count_by, take}
use Rattle.std.specs.HashMap.{get}
use Rattle.sudo_text.specs.declared.line.Place.{Place}
use Rattle.review_grants.specs.Depends.{key_of, same_key, same_place}
use Rattle.review_subjects.proofs.places.tally.Given as goal

abbrev pub invariant-loop-place : goal.invariant-loop-place
invariant-loop-place l =
    (q : Place) → unwrap_or (get same_key l.counts (key_of q)) 0 ≡ count_by (same_place q) (take l.place-index l.places)
