use Rattle.std.proofs.Common.{◌≡◌, ◌∙◌, List, ap, subst}
use Rattle.review_compare.specs.declared.block.Block.{Block}
use Rattle.review_compare.specs.declared.ruling.Ruled.{Ruled}
use Rattle.review_compare.specs.Cells.{Decider}
use Rattle.review_compare.specs.Body.Near.{AreParts, changed_rows}
use Rattle.review_compare.specs.Body.Shown.{all_shown}
use Rattle.review_compare.proofs.NearLemmas.{part-at}
use Rattle.review_compare.proofs.near.parts_near.Goals as goal

pub returns : goal.returns
returns c =
    let k = c.args.common in
    let bs = c.args.old.now.blocks.items in
    let cs = c.args.new.now.blocks.items in
    let changed : all_shown c.in_ok-changed.changed.items ≡ changed_rows k bs cs =
    c.in_ok-changed.ensures
    ∙ ap (λ (bs : List Block). changed_rows k bs c.deref-2.result.now) c.deref.ensures.value
    ∙ ap (changed_rows k bs) c.deref-2.ensures.value in
    record {
      old = part-at (changed_rows k bs cs) bs c.in_ok-old_parts.old_parts.items
          (subst (λ (ds : List Decider). AreParts ds bs c.in_ok-old_parts.old_parts.items) changed
          (subst (λ (rows : List Ruled). AreParts (all_shown rows) bs c.in_ok-old_parts.old_parts.items) c.deref-3.ensures.value
          (subst (λ (bs : List Block). AreParts (all_shown c.deref-3.result.now) bs c.in_ok-old_parts.old_parts.items)
          c.deref-4.ensures.value c.in_ok-old_parts.ensures)));
      new = part-at (changed_rows k bs cs) cs c.in_ok-new_parts.new_parts.items
          (subst (λ (ds : List Decider). AreParts ds cs c.in_ok-new_parts.new_parts.items) changed
          (subst (λ (rows : List Ruled). AreParts (all_shown rows) cs c.in_ok-new_parts.new_parts.items) c.deref-5.ensures.value
          (subst (λ (cs : List Block). AreParts (all_shown c.deref-5.result.now) cs c.in_ok-new_parts.new_parts.items)
          c.deref-6.ensures.value c.in_ok-new_parts.ensures)));
    }
