use Rattle.std.proofs.Common.{◌∙◌, ap}
use Rattle.review_roots.specs.States.{step_given}
use Rattle.review_roots.proofs.host.HostSteps.step.Goals as goal

pub step_toward-requires-clause-toward : goal.step_toward-requires-clause-toward
step_toward-requires-clause-toward c = (c.known_toward.ensures.toward c.in-Some.toward c.in-Some.is).1

pub returns-in-Some : goal.returns-in-Some
returns-in-Some c =
    let h = c.args.self.now in
    c.step_toward.ensures
    ∙ ap (step_given h.checked.now h.directory.now h.host.now h.groups.now c.args.candidate.now.state)
    (c.known_toward.ensures.toward c.in-Some.toward c.in-Some.is).0
