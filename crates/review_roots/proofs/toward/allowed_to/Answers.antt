use Rattle.std.proofs.Common.{option_copied}
use Rattle.review_roots.specs.Body.Towards.{block_allows}
use Rattle.review_roots.proofs.SoleLemmas.{answers-more}
use Rattle.review_roots.proofs.toward.allowed_to.Goals as goal

pub loop-index-preserved : goal.loop-index-preserved
loop-index-preserved c =
    answers-more (block_allows c.args.ground.checked.now c.args.ground.directory.now c.args.user.now c.args.host.now c.args.target.now
    (option_copied c.args.group)) c.args.ground.blocks.now c.loop-index.index c.allows_behind-stands.result c.loop-index.allowed.items
    c.push.new.self.items c.loop-index-test.true c.allows_behind-stands.ensures c.loop-index.invariant c.in_ok-push.ensures.items
