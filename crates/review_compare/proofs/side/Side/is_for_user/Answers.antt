use Rattle.std.proofs.Common.{◌∙◌, arith, sym}
use Rattle.review_compare.specs.Body.Chosen.{user_at}
use Rattle.review_compare.proofs.UnchangedLemmas.{none-more, user-quiet}
use Rattle.review_compare.proofs.side.Side.is_for_user.Goals as goal

pub loop-index-preserved : goal.loop-index-preserved
loop-index-preserved c =
    none-more c.args.common.front c.loop-index.index (user_at c.args.self.now.checked.now c.args.self.now.blocks.items c.args.user.now)
    c.loop-index.invariant (sym c.lists_user_at.ensures ∙ c.if-lists_user_at.false)

pub returns : goal.returns
returns c = λ e. user-quiet c.args.self.now.checked.now c.args.self.now.blocks.items c.args.common c.args.user.now c.loop-index.index
    (omega (arith, c.loop-index-test.false)) c.loop-index.invariant
