use Rattle.std.proofs.Common.{◌∙◌, ◌&&◌, arith, sym}
use Rattle.review_compare.specs.Body.Chosen.{host_at, user_at}
use Rattle.review_compare.proofs.UnchangedLemmas.{none-more, spot-quiet}
use Rattle.review_compare.proofs.side.Side.is_for_spot.Goals as goal

pub loop-index-preserved : goal.loop-index-preserved
loop-index-preserved c =
    let self = c.args.self.now in
    none-more c.args.common.front c.loop-index.index
    (λ i. user_at self.checked.now self.blocks.items c.args.user.now i && host_at self.checked.now self.blocks.items c.args.host.now i)
    c.loop-index.invariant (sym c.lists_spot_at.ensures ∙ c.if-lists_spot_at.false)

pub returns : goal.returns
returns c = λ e. spot-quiet c.args.self.now.checked.now c.args.self.now.blocks.items c.args.common c.args.user.now c.args.host.now
    c.loop-index.index (omega (arith, c.loop-index-test.false)) c.loop-index.invariant
