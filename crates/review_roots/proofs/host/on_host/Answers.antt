use Rattle.review_roots.specs.Blocks.{is_for}
use Rattle.review_roots.proofs.SoleLemmas.{answers-more}
use Rattle.review_roots.proofs.host.on_host.Goals as goal

pub loop-index-preserved : goal.loop-index-preserved
loop-index-preserved c =
    answers-more (is_for c.args.checked.now c.args.host.now) c.args.blocks.now c.loop-index.index c.is_for_behind-stands.result
    c.loop-index.on.items c.push.new.self.items c.loop-index-test.true c.is_for_behind-stands.ensures c.loop-index.invariant
    c.in_ok-push.ensures.items
