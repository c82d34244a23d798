use Rattle.std.proofs.Common.{◌≡◌, ◌∙◌, List, ap}
use Rattle.review_compare.specs.declared.block.Block.{Block}
use Rattle.review_compare.specs.declared.ruling.Ruled.{Ruled}
use Rattle.review_compare.specs.Cells.{Decider}
use Rattle.review_compare.specs.Body.Near.{changed_rows, near_at}
use Rattle.review_compare.specs.Body.Shown.{all_shown}
use Rattle.review_compare.proofs.near.near_change.Goals as goal

pub returns : goal.returns
returns c =
    let k = c.args.common in
    let bs = c.args.old.now.blocks.items in
    let cs = c.args.new.now.blocks.items in
    let changed : all_shown c.in_ok-changed.changed.items ≡ changed_rows k bs cs =
    c.in_ok-changed.ensures
    ∙ ap (λ (bs : List Block). changed_rows k bs c.deref-2.result.now) c.deref.ensures.value
    ∙ ap (changed_rows k bs) c.deref-2.ensures.value in
    record {
      old = c.in_ok-old_near.ensures
          ∙ ap (λ (rows : List Ruled). near_at (all_shown rows) c.deref-4.result.now) c.deref-3.ensures.value
          ∙ ap (λ (ds : List Decider). near_at ds c.deref-4.result.now) changed
          ∙ ap (near_at (changed_rows k bs cs)) c.deref-4.ensures.value;
      new = c.in_ok-new_near.ensures
          ∙ ap (λ (rows : List Ruled). near_at (all_shown rows) c.deref-6.result.now) c.deref-5.ensures.value
          ∙ ap (λ (ds : List Decider). near_at ds c.deref-6.result.now) changed
          ∙ ap (near_at (changed_rows k bs cs)) c.deref-6.ensures.value;
    }
