use Rattle.std.proofs.Common.{◌∙◌}
use Rattle.std.specs.HashSet.{contains}
use Rattle.review_grants.specs.Depends.{key_of, same_key}
use Rattle.review_subjects.proofs.EqualPlaces.{one_added}
use Rattle.review_subjects.proofs.places.add.Goals as goal

pub returns-clause-seen : goal.returns-clause-seen
returns-clause-seen c = λ q. c.in_ok-insert.ensures.updates.0 (key_of q)
    ∙ one_added q c.args.place (contains same_key c.args.seen.now (key_of q))
