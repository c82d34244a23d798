use Rattle.std.proofs.Common.{◌≤◌, ℕ, take}
use Rattle.std.specs.Prelude.{All}
use Rattle.review_roots.specs.Body.Firsts.{IsBounded, IsNoted}
use Rattle.review_roots.proofs.firsts.Firsts.first_for.Given as goal

abbrev pub invariant-loop-index : goal.invariant-loop-index
invariant-loop-index l = record {
  user : (i : ℕ) → IsNoted l.self.users.items l.start i l.candidate.state.user → l.first ≤ i;
  blocks : All (IsBounded l.steps.on.items l.self.blocks.items l.start l.first) (take l.index-index l.index-items);
}
