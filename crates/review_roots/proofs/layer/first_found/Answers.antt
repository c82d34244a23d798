use Rattle.std.proofs.Common.{subst, sym}
use Rattle.review_roots.specs.Body.Found.{TellLike}
use Rattle.review_roots.proofs.layer.first_found.Goals as goal

pub first_reached-requires-clause-like : goal.first_reached-requires-clause-like
first_reached-requires-clause-like c = subst TellLike (sym c.deref.ensures.value) c.requires.layer.like
