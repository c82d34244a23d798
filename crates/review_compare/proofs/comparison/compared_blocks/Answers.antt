use Rattle.std.proofs.Common.{◌∙◌, List, ap, subst}
use Rattle.std.proofs.lemmas.Result.{IfOk-weaker}
use Rattle.review_compare.specs.declared.block.Block.{Block}
use Rattle.review_compare.specs.declared.compared.Compared.{Compared}
use Rattle.review_compare.specs.declared.ruling.Ruled.{Ruled}
use Rattle.review_compare.specs.Cells.{Decider}
use Rattle.review_compare.specs.Witnesses.{IsCompared}
use Rattle.review_compare.specs.Body.Chosen.{chosen}
use Rattle.review_compare.specs.Body.Shown.{all_shown}
use Rattle.review_compare.proofs.comparison.compared_blocks.Goals as goal

pub returns : goal.returns
returns c =
    let old = ap (λ (rs : List Ruled). all_shown rs) c.deref-4.ensures.value ∙ c.in_ok-old_rows.ensures
    ∙ ap (λ (bs : List Block). chosen bs c.args.old.now) c.deref-2.ensures.value in
    let new = ap (λ (rs : List Ruled). all_shown rs) c.deref-5.ensures.value ∙ c.in_ok-new_rows.ensures
    ∙ ap (λ (bs : List Block). chosen bs c.args.new.now) c.deref-3.ensures.value in
    IfOk-weaker c.compared_rows.result _ _
    (λ (f : Compared) is.
    subst (λ (ds : List Decider). IsCompared ds (chosen c.args.pair.now.parts.new.items c.args.new.now) f) old
    (subst (λ (es : List Decider). IsCompared (all_shown c.deref-4.result.now) es f) new is))
    c.compared_rows.ensures
