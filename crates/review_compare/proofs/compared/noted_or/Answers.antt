use Rattle.std.proofs.Common.{inr}
use Rattle.review_compare.proofs.compared.noted_or.Goals as goal

pub returns-in-Some : goal.returns-in-Some
returns-in-Some c = inr c.in-Some.ensures
