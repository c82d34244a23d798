use Rattle.review_roots.proofs.search.is_reached_by.Goals as goal

pub is_reached-requires-clause-state : goal.is_reached-requires-clause-state
is_reached-requires-clause-state c = (c.known_toward.ensures.toward c.in-Some.toward c.in-Some.is).0

pub is_reached-requires-clause-toward : goal.is_reached-requires-clause-toward
is_reached-requires-clause-toward c = (c.known_toward.ensures.toward c.in-Some.toward c.in-Some.is).1
