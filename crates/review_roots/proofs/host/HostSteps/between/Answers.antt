use Rattle.review_roots.proofs.host.HostSteps.between.Goals as goal

pub step-requires : goal.step-requires
step-requires c = (c.known.ensures c.in-Some.known c.in-Some.is).1

pub step-requires-in-Some-found : goal.step-requires-in-Some-found
step-requires-in-Some-found c = (c.in_ok-found.ensures.known c.in-Some-found.candidate c.in-Some-found.is).1
