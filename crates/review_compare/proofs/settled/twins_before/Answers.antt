use Rattle.std.proofs.Common.{arith}
use Rattle.review_compare.proofs.SettledLemmas.{before-more}
use Rattle.review_compare.proofs.settled.twins_before.Goals as goal

pub loop-front-preserved : goal.loop-front-preserved
loop-front-preserved c =
    before-more c.args.parts.now c.args.twins.now c.args.old.now c.args.new.now c.loop-front.front c.requires
    (omega (arith, c.loop-front-test.true, c.min-most.ensures)) (omega (arith, c.loop-front-test.true, c.min-most.ensures))
    (c.is_twin.ensures c.if-not-is_twin.false) c.loop-front.invariant
