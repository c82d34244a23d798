use Rattle.std.proofs.Common.{◌+◌, ◌-◌, map, length}
use Rattle.std.specs.Prelude.{All}
use Rattle.review_roots.specs.declared.level.Level.{Level}
use Rattle.review_roots.specs.Body.Found.{AreDeep, AreGiven, IsCandidate, IsSearch, kept_steps}
use Rattle.review_roots.specs.Body.Candidates.{states_of}
use Rattle.review_roots.proofs.search.spread.Given as goal

abbrev pub invariant-loop-start : goal.invariant-loop-start
invariant-loop-start l = record {
  candidates : All (IsCandidate l.steps) (map (λ c. c.now) l.left.items);
  given : AreGiven l.steps l.found.items;
  deep : AreDeep l.found.items;
  search : (k : Level) → IsSearch l.steps.directory.now (kept_steps l.steps l.sought) k l.level 0 l.initial.found.items
      (states_of (map (λ c. c.now) l.initial.left.items)) →
      IsSearch l.steps.directory.now (kept_steps l.steps l.sought) k l.level l.start l.found.items
      (states_of (map (λ c. c.now) l.left.items));
}

abbrev pub decreases-loop-start : goal.decreases-loop-start
decreases-loop-start l = length l.left.items + length l.found.items - l.start
