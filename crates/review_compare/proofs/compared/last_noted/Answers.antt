use Rattle.std.proofs.Common.{◌-◌, ◌∙◌, arith, sym}
use Rattle.review_compare.proofs.UnsettledLemmas.{row-at}
use Rattle.review_compare.proofs.compared.last_noted.Goals as goal

pub returns-then-is_noted_beside : goal.returns-then-is_noted_beside
returns-then-is_noted_beside c =
    let some = c.loop-end-test.true in
    let within = c.loop-end.invariant in (
      row-at c.args.rows.now (c.loop-end.end - 1) c.index-rows-end.result (omega (arith, some, within)) c.index-rows-end.is,
      sym c.is_noted_beside.ensures ∙ c.if-is_noted_beside.true,
    )
