use Rattle.std.proofs.Common.{◌≡◌, ◌<◌, ◌≤◌, ℕ, false}
use Rattle.review_compare.specs.Body.Chosen.{user_at}
use Rattle.review_compare.proofs.side.Side.is_for_user.Given as goal

-- no block so far lists the user
abbrev pub invariant-loop-index : goal.invariant-loop-index
invariant-loop-index l = (i : ℕ) → l.fn.common.front ≤ i → i < l.index
    → user_at l.self.checked.now l.self.blocks.items l.user i ≡ false
