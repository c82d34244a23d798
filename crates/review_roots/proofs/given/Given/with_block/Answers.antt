use Rattle.review_roots.proofs.EffectLemmas.{block-gives}
use Rattle.review_roots.proofs.given.Given.with_block.Goals as goal

pub returns : goal.returns
returns c =
    block-gives c.args.block.now c.args.self _ _ _ _ _ c.level_after.ensures c.is_free_after.ensures c.is_unasked_after.ensures
    c.by_behind.ensures c.marks_after.ensures
