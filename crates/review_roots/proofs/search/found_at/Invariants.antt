use Rattle.std.proofs.Common.{◌≡◌, ◌==◌, map, take}
use Rattle.std.specs.Prelude.{filter}
use Rattle.review_roots.specs.Body.Found.{found_there}
use Rattle.review_roots.proofs.search.found_at.Given as goal

abbrev pub invariant-loop-state : goal.invariant-loop-state
invariant-loop-state l = l.found.items ≡ map found_there (filter (λ s. s.user == l.target) (take l.state-index l.steps.states.now))
