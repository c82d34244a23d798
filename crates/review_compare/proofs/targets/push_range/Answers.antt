use Rattle.std.proofs.Common.{arith}
use Rattle.review_compare.proofs.TargetLemmas.{range-all, range-more}
use Rattle.review_compare.proofs.targets.push_range.Goals as goal

pub loop-index-preserved : goal.loop-index-preserved
loop-index-preserved c =
    let so_far = c.loop-index.invariant in (
      range-more c.args.targets.now.items c.loop-index.targets.items c.push.new.self.items c.args.first c.loop-index.index so_far.1
          so_far.0 c.in_ok-push.ensures.items,
      omega (arith, so_far.1),
      omega (arith, so_far.1, so_far.2, c.loop-index-test.true),
    )

pub returns : goal.returns
returns c =
    let so_far = c.loop-index.invariant in
    range-all c.args.targets.now.items c.loop-index.targets.items c.args.first c.loop-index.index c.args.end so_far.1 so_far.2
    c.loop-index-test.false so_far.0
