use Rattle.std.proofs.Common.{◌∙◌, List, ap, arith, map, sym}
use Rattle.std.proofs.lemmas.List.{take_all}
use Rattle.review_compare.specs.declared.ruling.Ruled.{Ruled}
use Rattle.review_compare.specs.Body.Shown.{ruling_of}
use Rattle.review_compare.proofs.RowLemmas.{rulings-more}
use Rattle.review_compare.proofs.compared.have_same_rulings.Goals as goal

pub loop-index-preserved : goal.loop-index-preserved
loop-index-preserved c =
    rulings-more c.args.rows.now c.args.others.now c.loop-index.index c.index-rows-index.result c.index-others-index.result
    c.loop-index-test.true
    (omega (arith, c.loop-index-test.true, c.if-rows-others.false)) c.index-rows-index.is c.index-others-index.is
    (c.is_same_ruling.ensures c.if-not-is_same_ruling.false) c.loop-index.invariant

pub returns : goal.returns
returns c = λ e.
    sym (ap (λ (rs : List Ruled). map ruling_of rs) (take_all c.loop-index.index c.args.rows.now (omega (arith, c.loop-index-test.false))))
    ∙ c.loop-index.invariant
    ∙ ap (λ (rs : List Ruled). map ruling_of rs) (take_all c.loop-index.index c.args.others.now (omega
    (arith, c.loop-index-test.false, c.if-rows-others.false)))
