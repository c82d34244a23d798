use Rattle.std.proofs.Common.{◌≡◌, ◌-◌, ◌+◌, ◌∙◌, ap, arith, drop, sym}
use Rattle.review_compare.specs.Cells.{lined_of}
use Rattle.review_compare.specs.Body.Reaches.{reach}
use Rattle.review_compare.specs.Body.Shown.{all_shown, shown}
use Rattle.review_compare.proofs.ReachLemmas.{reach-at, reach-none}
use Rattle.review_compare.proofs.reach.reach_in.Goals as goal

pub returns-then-covers_where : goal.returns-then-covers_where
returns-then-covers_where c =
    let end = c.loop-end.end in
    let some = c.loop-end-test.true in
    let on : end - 1 + 1 ≡ end = omega (arith, some) in
    let a = lined_of (shown c.args.other.now) in
    sym (reach-at c.args.rows.now c.index-rows-end.result (end - 1) a (omega (arith, some, c.loop-end.invariant.0))
    c.index-rows-end.is (sym c.covers_where.ensures ∙ c.if-covers_where.true)
    (ap (λ n. reach (all_shown (drop n c.args.rows.now)) a) on ∙ c.loop-end.invariant.1))

pub loop-end-preserved : goal.loop-end-preserved
loop-end-preserved c =
    let end = c.loop-end.end in
    let some = c.loop-end-test.true in
    let on : end - 1 + 1 ≡ end = omega (arith, some) in
    let a = lined_of (shown c.args.other.now) in (
      omega (arith, c.loop-end.invariant.0),
      reach-none c.args.rows.now c.index-rows-end.result (end - 1) a (omega (arith, some, c.loop-end.invariant.0))
          c.index-rows-end.is (sym c.covers_where.ensures ∙ c.if-covers_where.false)
          (ap (λ n. reach (all_shown (drop n c.args.rows.now)) a) on ∙ c.loop-end.invariant.1),
    )
