use Rattle.review_compare.specs.Body.Whoever.{AllowAlikeBelow}
use Rattle.review_compare.proofs.shared.are_forms_alike.Given as goal

abbrev pub invariant-loop-at : goal.invariant-loop-at
invariant-loop-at l = AllowAlikeBelow l.pair l.forms l.at
