use Rattle.std.proofs.Common.{◌++◌, ◌∙◌, ap, get_or, sym}
use Rattle.review_compare.specs.Body.Chosen.{deciders_at}
use Rattle.review_compare.proofs.ChosenLemmas.{flat-take}
use Rattle.review_compare.proofs.side.rows_at.Goals as goal

pub loop-index-preserved : goal.loop-index-preserved
loop-index-preserved c =
    let k = c.loop-index.index-index in
    c.in_ok-push_at.ensures
    ∙ ap (λ ds. ds ++ deciders_at c.args.blocks.now (get_or c.args.indices.now k 0)) c.loop-index.invariant
    ∙ sym (flat-take (deciders_at c.args.blocks.now) c.args.indices.now k c.loop-index-test.true)
