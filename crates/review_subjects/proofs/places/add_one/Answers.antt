use Rattle.std.proofs.Common.{refl}
use Rattle.std.specs.HashMap.{get}
use Rattle.review_grants.specs.Depends.{key_of, same_key, same_place}
use Rattle.review_subjects.proofs.EqualPlaces.{one_more}
use Rattle.review_subjects.proofs.places.add_one.Goals as goal

pub returns : goal.returns
returns c = λ q. one_more q c.args.place (get same_key c.args.counts.now) _ c.count_at-count.result (same_place q c.args.place) refl
    c.count_at-count.ensures (c.in_ok-insert.ensures.updates.0 (key_of q))
