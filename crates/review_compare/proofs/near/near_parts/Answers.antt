use Rattle.std.proofs.Common.{◌++◌, ◌∷◌, ◌+◌, [], List, arith, subst, sym, take}
use Rattle.std.proofs.lemmas.List.{take_all}
use Rattle.review_grants.proofs.ListSteps.{take-more}
use Rattle.review_compare.specs.declared.block.Block.{Block}
use Rattle.review_compare.specs.Body.Near.{AreParts}
use Rattle.review_compare.specs.Body.Shown.{all_shown}
use Rattle.review_compare.proofs.NearLemmas.{parts-more}
use Rattle.review_compare.proofs.near.near_parts.Goals as goal

pub loop-block-preserved : goal.loop-block-preserved
loop-block-preserved c =
    let changed = all_shown c.args.changed.now in
    let bs = c.args.blocks.now in
    let i = c.loop-block.block-index in
    let b = c.block-item.result in
    let part = c.in_ok-part.part in
    subst (λ (parts : List Block). AreParts changed (take (i + 1) bs) parts) (sym c.in_ok-push.ensures.items)
    (subst (λ (some : List Block). AreParts changed some (c.loop-block.parts.items ++ part ∷ []))
    (sym (take-more bs i b c.loop-block-test.true c.block-item.is))
    (parts-more changed (take i bs) c.loop-block.parts.items b part c.loop-block.invariant c.in_ok-part.ensures))

pub returns : goal.returns
returns c =
    subst (λ (bs : List Block). AreParts (all_shown c.args.changed.now) bs c.loop-block.parts.items)
    (take_all c.loop-block.block-index c.args.blocks.now (omega (arith, c.loop-block-test.false))) c.loop-block.invariant
