use Rattle.std.proofs.Common.{◌∙◌}
use Rattle.review_grants.specs.declared.depends.NotedPlaces.{NotedPlaces}
use Rattle.review_grants.proofs.NotedLemmas.{all-marked, all-noted}
use Rattle.review_grants.proofs.depends.NotedPlaces.of.Goals as goal

pub returns-clause-noted : goal.returns-clause-noted
returns-clause-noted c =
    let made : NotedPlaces = record { marks = c.in_ok-marks.marks } in
    all-noted c.args.checked.now made _ (c.as_slice.ensures.value ∙ c.in_ok-found.ensures) c.in_ok-marks.ensures

pub returns-clause-marked : goal.returns-clause-marked
returns-clause-marked c =
    let made : NotedPlaces = record { marks = c.in_ok-marks.marks } in
    all-marked c.args.checked.now made _ (c.as_slice.ensures.value ∙ c.in_ok-found.ensures) c.in_ok-marks.ensures
