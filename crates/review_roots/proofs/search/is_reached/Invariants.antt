use Rattle.std.proofs.Common.{◌≡◌, false, take}
use Rattle.std.specs.Prelude.{All}
use Rattle.review_roots.specs.Body.Found.{reaches}
use Rattle.review_roots.proofs.search.is_reached.Given as goal

abbrev pub invariant-loop-candidate : goal.invariant-loop-candidate
invariant-loop-candidate l = All (λ c. reaches l.steps l.aim c.now ≡ false) (take l.candidate-index l.left)
