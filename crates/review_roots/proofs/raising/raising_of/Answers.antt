use Rattle.review_roots.specs.Body.Raising.{block_raises}
use Rattle.review_roots.proofs.IndexLemmas.{index-step}
use Rattle.review_roots.proofs.raising.raising_of.Goals as goal

pub loop-index-preserved : goal.loop-index-preserved
loop-index-preserved c =
    index-step (block_raises c.args.least) c.args.blocks.now c.loop-index.index c.index-blocks-index.result
    c.block_raises-passes.result c.loop-index.raising.items c.push_if.new.found.items c.loop-index-test.true
    c.index-blocks-index.is c.block_raises-passes.ensures c.loop-index.invariant c.in_ok-push_if.ensures
