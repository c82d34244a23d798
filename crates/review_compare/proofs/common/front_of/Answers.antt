use Rattle.review_compare.specs.Body.Unchanged.{AreAlikeAt}
use Rattle.review_compare.proofs.UnchangedLemmas.{all-more}
use Rattle.review_compare.proofs.common.front_of.Goals as goal

pub loop-front-preserved : goal.loop-front-preserved
loop-front-preserved c =
    let old = c.args.old.now in
    let new = c.args.new.now in
    all-more c.loop-front.front (λ i. AreAlikeAt old.checked.now old.blocks.items new.checked.now new.blocks.items i i)
    c.loop-front.invariant (c.in_ok-are_alike_at.ensures c.if-not-branch.false)
