use Rattle.std.proofs.Common.{◌-◌, ◌∙◌, arith, sym}
use Rattle.std.proofs.lemmas.Option.{IfSome_then}
use Rattle.review_compare.proofs.WitnessLemmas.{answered-last, passed-by}
use Rattle.review_compare.proofs.witness.sure_verdict.Goals as goal

pub returns-then-fits : goal.returns-then-fits
returns-then-fits c =
    let some = c.loop-end-test.true in
    let within = c.loop-end.invariant.within in
    IfSome_then c.verdict_by.result c.verdict_by.ensures (λ v is met.
    is.1
    ∙ sym (c.loop-end.invariant.same met
    ∙ answered-last c.args.rows.now (c.loop-end.end - 1) c.loop-end.end c.index-rows-end.result met c.args.command.now c.args.arguments.now
    (omega (arith, some, within)) (omega (arith, some)) c.index-rows-end.is (sym c.fits.ensures ∙ c.if-fits.true)
    is.0))

pub loop-end-preserved : goal.loop-end-preserved
loop-end-preserved c =
    let some = c.loop-end-test.true in
    let within = c.loop-end.invariant.within in
    record {
      within = omega (arith, some, within);
      same = λ met. c.loop-end.invariant.same met
          ∙ passed-by c.args.rows.now (c.loop-end.end - 1) c.loop-end.end c.index-rows-end.result met c.args.command.now
          c.args.arguments.now (omega (arith, some, within)) (omega (arith, some)) c.index-rows-end.is
          (sym c.fits.ensures ∙ c.if-fits.false);
    }
