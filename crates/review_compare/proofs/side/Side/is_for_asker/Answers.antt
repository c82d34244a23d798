use Rattle.std.proofs.Common.{◌∙◌, ◌&&◌, arith, option_copied, sym}
use Rattle.sudo_verdict.specs.Questions.{question_as}
use Rattle.review_compare.specs.Body.Chosen.{runas_at, user_at}
use Rattle.review_compare.proofs.UnchangedLemmas.{ask-quiet, none-more}
use Rattle.review_compare.proofs.side.Side.is_for_asker.Goals as goal

pub loop-index-preserved : goal.loop-index-preserved
loop-index-preserved c =
    let self = c.args.self.now in
    let asker = c.args.asker in
    none-more c.args.common.front c.loop-index.index
    (λ i. runas_at self.checked.now self.blocks.items (question_as c.args.directory.now asker.user.now asker.host.now
    (option_copied asker.target) (option_copied asker.group)) i
    && user_at self.checked.now self.blocks.items asker.user.now i)
    c.loop-index.invariant (sym c.lists_asker_at.ensures ∙ c.if-lists_asker_at.false)

pub returns : goal.returns
returns c = λ e. let asker = c.args.asker in
    ask-quiet c.args.self.now.checked.now c.args.self.now.blocks.items c.args.common c.args.directory.now asker.user.now asker.host.now
    (option_copied asker.target) (option_copied asker.group) c.loop-index.index (omega (arith, c.loop-index-test.false))
    c.loop-index.invariant
