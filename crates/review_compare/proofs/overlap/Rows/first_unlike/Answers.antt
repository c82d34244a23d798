use Rattle.std.proofs.Common.{◌+◌, Some, ap, arith, drop, subst, sym}
use Rattle.std.specs.Prelude.{is_some}
use Rattle.review_compare.specs.declared.ruling.Ruled.{Ruled}
use Rattle.review_compare.specs.Unsettled.{IsOpen}
use Rattle.review_compare.specs.Body.Shown.{IsUnlikeIf, all_shown, shown, shown_if}
use Rattle.review_compare.proofs.OverlapLemmas.{each-more}
use Rattle.review_compare.proofs.UnsettledLemmas.{open-at, open-left}
use Rattle.review_compare.proofs.overlap.Rows.first_unlike.Goals as goal

pub returns-in-Some-clause-are_open : goal.returns-in-Some-clause-are_open
returns-in-Some-clause-are_open c =
    let s = c.args.self.now in
    open-left (all_shown s.old.now) (all_shown s.new.now) (shown c.in-Some.other) c.in-Some.ensures.left

pub returns-in-Some-unlike_one-clause-are_open : goal.returns-in-Some-unlike_one-clause-are_open
returns-in-Some-unlike_one-clause-are_open c =
    let s = c.args.self.now in
    let i = c.loop-index.index in
    let o = c.in-Some-unlike_one.other in
    subst (λ (r : Ruled). IsOpen (all_shown s.old.now) (all_shown s.new.now) (Some (shown r)) (shown_if o)) c.index-self-index.is
    (open-at s.old.now s.new.now i c.index-self-index.result o
    (omega (arith, c.loop-index-test.true, s.within.0)) c.index-self-index.is
    (subst (λ (r : Ruled). IsUnlikeIf (shown r) (all_shown (drop (i + 1) s.old.now)) (all_shown s.new.now) (shown_if o))
    (sym c.index-self-index.is) c.in-Some-unlike_one.ensures.unlike))

pub loop-index-preserved : goal.loop-index-preserved
loop-index-preserved c =
    let s = c.args.self.now in
    each-more s.old.now s.new.now s.front s.new_end c.loop-index.index
    (c.unlike_one.ensures.none (ap is_some c.in_default-unlike_one.is)) c.loop-index.invariant

pub returns-clause-none : goal.returns-clause-none
returns-clause-none c = λ none. record {
  none = c.unlike_none.ensures.none (ap is_some c.in_default.is);
  each = λ i less. c.loop-index.invariant i (omega (arith, less, c.loop-index-test.false));
}
