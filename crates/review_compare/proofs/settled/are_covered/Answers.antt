use Rattle.std.proofs.Common.{List}
use Rattle.review_compare.specs.Body.Chosen.{chosen}
use Rattle.review_compare.proofs.SettledLemmas.{covered-more, covered-past}
use Rattle.review_compare.proofs.settled.are_covered.Goals as goal

pub loop-row-preserved : goal.loop-row-preserved
loop-row-preserved c =
    let others = chosen c.args.parts.now.new.items c.args.later.now in
    covered-more others c.args.rows.now c.loop-row.row-index c.row-item.result c.loop-row-test.true c.row-item.is
    (c.is_covered_in.ensures c.if-not-is_covered_in.false) c.loop-row.invariant

pub returns : goal.returns
returns c = λ _.
    let others = chosen c.args.parts.now.new.items c.args.later.now in
    c.loop-row.invariant (covered-past others c.args.rows.now c.loop-row.row-index c.loop-row-test.false)
