use Rattle.std.proofs.Common.{◌+◌, ◌∙◌, ap, arith, drop, subst, sym}
use Rattle.review_compare.specs.declared.ruling.Ruled.{Ruled}
use Rattle.review_compare.specs.Body.Shown.{IsUnlike, all_shown, pair_agrees, shown}
use Rattle.review_compare.proofs.OverlapLemmas.{agrees-more}
use Rattle.review_compare.proofs.UnsettledLemmas.{unlike-at}
use Rattle.review_compare.proofs.overlap.Rows.unlike_from.Goals as goal

pub returns-then-not-agree-clause-unlike : goal.returns-then-not-agree-clause-unlike
returns-then-not-agree-clause-unlike c =
    let s = c.args.self.now in
    let own = shown c.args.own.now in
    let later = all_shown (drop (c.args.at + 1) s.old.now) in
    let i = c.loop-index.index in
    subst (λ (r : Ruled). IsUnlike own later (all_shown s.new.now) (shown r)) c.index-self-index.is
    (unlike-at own later s.new.now i c.index-self-index.result c.agree.result
    (omega (arith, c.loop-index-test.true, s.within.1)) c.index-self-index.is
    (c.agree.ensures
    ∙ ap (λ (r : Ruled). pair_agrees own later (shown r) (all_shown (drop (i + 1) s.new.now))) (sym c.index-self-index.is))
    c.if-not-agree.true)

pub loop-index-preserved : goal.loop-index-preserved
loop-index-preserved c =
    let s = c.args.self.now in
    let own = shown c.args.own.now in
    let later = all_shown (drop (c.args.at + 1) s.old.now) in
    let i = c.loop-index.index in
    agrees-more s.old.now s.new.now c.args.at c.args.from i c.args.own.now c.index-self-index.result
    (omega (arith, c.requires.at, s.within.0)) c.requires.own (omega (arith, c.loop-index-test.true, s.within.1))
    c.index-self-index.is
    (ap (λ (r : Ruled). pair_agrees own later (shown r) (all_shown (drop (i + 1) s.new.now))) c.index-self-index.is
    ∙ sym c.agree.ensures ∙ c.if-not-agree.false)
    c.loop-index.invariant
