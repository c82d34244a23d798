use Rattle.std.proofs.Common.{◌≡◌, ◌<◌, ◌≤◌, ◌&&◌, ℕ, false, option_copied}
use Rattle.sudo_verdict.specs.Questions.{question_as}
use Rattle.review_compare.specs.Body.Chosen.{runas_at, user_at}
use Rattle.review_compare.proofs.side.Side.is_for_asker.Given as goal

-- no block so far lists the user and allows the target and the group
abbrev pub invariant-loop-index : goal.invariant-loop-index
invariant-loop-index l = (i : ℕ) → l.fn.common.front ≤ i → i < l.index
    → (runas_at l.self.checked.now l.self.blocks.items (question_as l.directory l.asker.user.now l.asker.host.now
    (option_copied l.asker.target) (option_copied l.asker.group)) i
    && user_at l.self.checked.now l.self.blocks.items l.asker.user.now i) ≡ false
