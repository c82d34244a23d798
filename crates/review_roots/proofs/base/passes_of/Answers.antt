use Rattle.review_roots.specs.Blocks.{lists}
use Rattle.review_roots.proofs.SoleLemmas.{answers-more}
use Rattle.review_roots.proofs.base.passes_of.Goals as goal

pub loop-index-preserved : goal.loop-index-preserved
loop-index-preserved c =
    answers-more (lists c.args.ground.checked.now c.args.person.now) c.args.ground.blocks.now c.loop-index.index
    c.passes_behind-stands.result c.loop-index.passes.items c.push.new.self.items c.loop-index-test.true c.passes_behind-stands.ensures
    c.loop-index.invariant c.in_ok-push.ensures.items
