use Rattle.std.proofs.Common.{refl}
use Rattle.review_roots.proofs.PasswordLemmas.{free_needs_none, free_is_all}
use Rattle.review_roots.proofs.laws.free_needs_no_password.Goals as goal

pub returns : goal.returns
returns c = record { place = refl; free = free_needs_none; all = free_is_all }
