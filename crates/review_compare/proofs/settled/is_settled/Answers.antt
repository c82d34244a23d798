use Rattle.std.proofs.Common.{◌-◌, ◌∙◌, List, ap, drop, length, subst, take}
use Rattle.review_compare.specs.declared.block.Block.{Block}
use Rattle.review_compare.specs.declared.ruling.Ruled.{Ruled}
use Rattle.review_compare.specs.Cells.{Decider}
use Rattle.review_compare.specs.Body.Chosen.{chosen}
use Rattle.review_compare.specs.Body.Settled.{AreCovered}
use Rattle.review_compare.specs.Body.Shown.{all_shown}
use Rattle.review_compare.proofs.SettledLemmas.{settled-slices, slice-from}
use Rattle.review_compare.proofs.settled.is_settled.Goals as goal

pub returns : goal.returns
returns c = λ e.
    let p = c.args.parts.now in
    let is = c.args.old.now in
    let js = c.args.new.now in
    let front = c.twins_before-front.result in
    let back = c.twins_behind-back.result in
    let old = take (length is - front) (drop front is) in
    let new = take (length js - front) (drop front js) in
    let n = length old - back in
    let m = length new - back in
    let later = take (length new - m) (drop m new) in
    let covered = λ (ds : List Decider). AreCovered (chosen p.new.items later) ds in
    let own = ap (λ (rs : List Ruled). all_shown rs) c.deref-3.ensures.value ∙ c.in_ok-own.ensures
    ∙ ap (λ (bs : List Block). chosen bs (take n old)) c.deref.ensures.value in
    let others = ap (λ (rs : List Ruled). all_shown rs) c.deref-4.ensures.value ∙ c.in_ok-others.ensures
    ∙ ap (λ (bs : List Block). chosen bs (take m new)) c.deref-2.ensures.value in
    settled-slices p is js old new later front back (slice-from is front) (slice-from js front) (slice-from new m)
    c.twins_before-front.ensures.alike c.twins_behind-back.ensures.alike
    (subst covered own (c.are_covered.ensures c.if-not-are_covered.false)) (subst covered others (c.are_covered-2.ensures e))
