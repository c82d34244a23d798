use Rattle.std.proofs.Common.{◌≡◌, ◌<◌, ◌≤◌, ℕ, false, option_copied}
use Rattle.sudo_match.specs.declared.people.Machine.{Machine}
use Rattle.sudo_match.specs.declared.people.Person.{Person}
use Rattle.sudo_verdict.specs.Questions.{question_as}
use Rattle.review_compare.specs.Body.Chosen.{runas_at}
use Rattle.review_compare.proofs.side.Side.may_allow.Given as goal

-- no block so far may allow the target and the group
abbrev pub invariant-loop-index : goal.invariant-loop-index
invariant-loop-index l = (i : ℕ) → l.fn.common.front ≤ i → i < l.index → (u : Person) (m : Machine)
    → runas_at l.self.checked.now l.self.blocks.items (question_as l.directory u m (option_copied l.asker.target)
    (option_copied l.asker.group)) i ≡ false
