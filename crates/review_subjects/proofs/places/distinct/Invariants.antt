use Rattle.std.proofs.Common.{◌≡◌, ◌++◌, [], take, drop}
use Rattle.std.specs.List.{list_any}
use Rattle.std.specs.HashSet.{contains}
use Rattle.sudo_text.specs.declared.line.Place.{Place}
use Rattle.review_grants.specs.Depends.{key_of, same_key, same_place}
use Rattle.review_subjects.specs.Counts.{firsts}
use Rattle.review_subjects.proofs.places.distinct.Given as goal

abbrev pub invariant-loop-place : goal.invariant-loop-place
invariant-loop-place l = record {
  seen : (q : Place) → contains same_key l.seen (key_of q) ≡ list_any (same_place q) (take l.place-index l.places);
  kept : l.kept.items ++ firsts (take l.place-index l.places) (drop l.place-index l.places) ≡ firsts [] l.places;
}
