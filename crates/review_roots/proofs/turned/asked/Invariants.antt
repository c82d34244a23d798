use Rattle.std.proofs.Common.{◌≡◌, map, take}
use Rattle.std.specs.Prelude.{filter}
use Rattle.review_roots.specs.Body.Found.{is_asked}
use Rattle.review_roots.proofs.turned.asked.Given as goal

abbrev pub invariant-loop-candidate : goal.invariant-loop-candidate
invariant-loop-candidate l = map (λ c. c.now) l.asked.items
    ≡ filter (is_asked l.steps l.target l.starts l.unasked) (take l.candidate-index l.candidate-items)
