use Rattle.review_roots.proofs.layer.toward_of.Goals as goal

pub returns-in-Some-clause-toward : goal.returns-in-Some-clause-toward
returns-in-Some-clause-toward c = c.known_toward.ensures.toward c.in-Some.toward c.in-Some.is

pub returns-in-Some-clause-strong : goal.returns-in-Some-clause-strong
returns-in-Some-clause-strong c = c.known_toward.ensures.strong c.in-Some.toward c.in-Some.is
