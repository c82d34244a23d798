use Rattle.review_roots.proofs.PasswordLemmas.{asked_always, free_is_unasked}
use Rattle.review_roots.proofs.laws.asked_always.Goals as goal

pub returns : goal.returns
returns c = record { asked = asked_always; free = free_is_unasked }
