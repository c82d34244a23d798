use Rattle.std.proofs.Common.{map}
use Rattle.review_roots.specs.Body.Candidates.{states_of}
use Rattle.review_roots.specs.Body.Found.{IsDrawn, kept_steps}
use Rattle.review_roots.proofs.search.has_step.Given as goal

abbrev pub invariant-loop-index : goal.invariant-loop-index
invariant-loop-index l =
    IsDrawn (kept_steps l.steps l.sought) l.level l.index l.spread.found.items (states_of (map (λ c. c.now) l.spread.left.items))
