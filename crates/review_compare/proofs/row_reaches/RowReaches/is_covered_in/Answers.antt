use Rattle.std.proofs.Common.{◌-◌, arith}
use Rattle.review_compare.specs.Body.RowReaches.{lined_by}
use Rattle.review_compare.proofs.RowReachLemmas.{covered-at}
use Rattle.review_compare.proofs.row_reaches.RowReaches.is_covered_in.Goals as goal

pub returns-then-own-gt0 : goal.returns-then-own-gt0
returns-then-own-gt0 c = λ _.
    covered-at c.args.blocks.now c.args.indices.now (c.loop-end.end - 1) c.in_block-own.result.1 (lined_by c.args.self.now)
    (omega (arith, c.loop-end-test.true, c.loop-end.invariant)) c.in_block-own.ensures.1 c.if-own-gt0.true
