use Rattle.std.proofs.Common.{◌≡◌, length, take, option_copied}
use Rattle.std.specs.Prelude.{filter}
use Rattle.sudo_verdict.specs.Questions.{question_as}
use Rattle.review_compare.specs.Body.Chosen.{runas_at}
use Rattle.review_compare.specs.Body.SameRunas.{AreAnswers}
use Rattle.review_compare.proofs.side.Side.allowing.Given as goal

abbrev pub invariant-loop-at : goal.invariant-loop-at
invariant-loop-at l = (length l.answers.items ≡ l.at)
    × AreAnswers l.self.checked.now l.self.blocks.items
    (question_as l.directory l.asker.user.now l.asker.host.now (option_copied l.asker.target) (option_copied l.asker.group)) l.listed
    l.answers.items
    × (l.indices.items
    ≡ filter (runas_at l.self.checked.now l.self.blocks.items
    (question_as l.directory l.asker.user.now l.asker.host.now (option_copied l.asker.target) (option_copied l.asker.group)))
    (take l.at l.listed))
