use Rattle.std.proofs.Common.{◌≡◌, ◌<◌, ℕ, get_or, length}
use Rattle.review_compare.specs.Body.SameRunas.{AllowAlike}
use Rattle.review_compare.proofs.side.Side.runas_firsts.Given as goal

abbrev pub invariant-loop-at : goal.invariant-loop-at
invariant-loop-at l = (length l.firsts.items ≡ l.at)
    × ((k : ℕ) → k < l.at → AllowAlike l.self.checked.now l.self.blocks.items l.indices (get_or l.firsts.items k k) k)
