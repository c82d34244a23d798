use Rattle.std.proofs.Common.{◌∙◌}
use Rattle.review_grants.proofs.TagSteps.{named-next}
use Rattle.review_roots.proofs.blocks.with_all_later.Goals as goal

pub loop-tag-preserved : goal.loop-tag-preserved
loop-tag-preserved c = λ before is. c.with_later-tags.ensures
    ∙ named-next before c.args.later.now c.loop-tag.tag-index _ c.loop-tag.tags c.loop-tag-test.true (c.loop-tag.invariant before is)
