use Rattle.std.proofs.Common.{◌∙◌, List, ap, arith, length, length-drop}
use Rattle.std.specs.Prelude.{filter}
use Rattle.review_compare.specs.declared.ruling.Ruled.{Ruled}
use Rattle.review_compare.specs.Body.ChangedRows.{is_near}
use Rattle.review_compare.specs.Body.Shown.{all_shown}
use Rattle.review_compare.proofs.ChangedLemmas.{are-changed, behind, tails-same}
use Rattle.review_compare.proofs.changed.Changed.between.Goals as goal

pub invariant_of-result : goal.invariant_of-result
invariant_of-result c =
    let old = c.args.old.now in
    let new = c.args.new.now in
    let front = c.same_front-front in
    let back = c.same_back-back in
    let own = ap length (behind old front.result) in
    let its = ap length (behind new front.result) in
    let near_old = c.in_ok-near_old.ensures
    ∙ ap (λ (rs : List Ruled). filter (is_near (all_shown rs)) (all_shown old)) c.deref.ensures.value in
    let near_new = c.in_ok-near_new.ensures
    ∙ ap (λ (rs : List Ruled). filter (is_near (all_shown rs)) (all_shown new)) c.deref-2.ensures.value in
    record {
      are_changed = are-changed old new c.in_ok-rows.rows.items front.result back.result
          (omega (arith, own, length-drop front.result old, front.ensures.within.0, back.ensures.within.0))
          (omega (arith, its, length-drop front.result new, front.ensures.within.1, back.ensures.within.1))
          front.ensures.same (tails-same old new front.result back.result back.ensures.same) c.in_ok-rows.ensures _ _ near_old near_new;
      near_old = near_old;
      near_new = near_new;
    }
