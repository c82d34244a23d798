use Rattle.review_compare.proofs.MergeLemmas.{absorbs-more}
use Rattle.review_compare.proofs.row.grouped.Goals as goal

pub loop-row-preserved : goal.loop-row-preserved
loop-row-preserved c = absorbs-more _ _ _ _ _ c.loop-row.invariant c.in_ok-absorb.ensures
