use Rattle.std.proofs.Common.{◌∙◌, ap}
use Rattle.sudo_verdict.specs.Values.{value}
use Rattle.review_subjects.specs.Body.Written.{allows_target}
use Rattle.review_subjects.proofs.reach.targets_reach.Goals as goal

pub returns : goal.returns
unfolding value
returns c =
    c.allows_target.ensures ∙ ap (λ ws. allows_target ws c.args.people.now) (c.as_slice.ensures.value ∙ c.in_ok-atoms.ensures)
