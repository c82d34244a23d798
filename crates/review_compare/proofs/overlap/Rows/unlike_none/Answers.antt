use Rattle.std.proofs.Common.{◌+◌, ◌∙◌, ap, arith, drop, subst, sym}
use Rattle.review_compare.specs.declared.ruling.Ruled.{Ruled}
use Rattle.review_compare.specs.Cells.{lined_of}
use Rattle.review_compare.specs.Body.Shown.{IsLeft, all_shown, is_covered_by_either, shown}
use Rattle.review_compare.proofs.UnsettledLemmas.{left-at}
use Rattle.review_compare.proofs.overlap.Rows.unlike_none.Goals as goal

pub returns-then-not-covers_new-clause-left : goal.returns-then-not-covers_new-clause-left
returns-then-not-covers_new-clause-left c =
    let s = c.args.self.now in
    let i = c.loop-index.index in
    subst (λ (r : Ruled). IsLeft (all_shown s.old.now) (all_shown s.new.now) (shown r)) c.index-self-index.is
    (left-at s.old.now s.new.now i c.index-self-index.result c.covers_new.result
    (omega (arith, c.loop-index-test.true, s.within.1)) c.index-self-index.is
    (c.covers_new.ensures
    ∙ ap (λ (r : Ruled). is_covered_by_either (all_shown s.old.now) (all_shown (drop (i + 1) s.new.now)) (lined_of (shown r)))
    (sym c.index-self-index.is))
    c.if-not-covers_new.true)
