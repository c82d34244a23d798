use Rattle.std.proofs.Common.{◌≡◌, ◌<◌, ◌≤◌, ◌&&◌, ℕ, false}
use Rattle.review_compare.specs.Body.Chosen.{host_at, user_at}
use Rattle.review_compare.proofs.side.Side.is_for_spot.Given as goal

-- no block so far lists the user and the host
abbrev pub invariant-loop-index : goal.invariant-loop-index
invariant-loop-index l = (i : ℕ) → l.fn.common.front ≤ i → i < l.index
    → (user_at l.self.checked.now l.self.blocks.items l.user i && host_at l.self.checked.now l.self.blocks.items l.host i) ≡ false
