use Rattle.std.proofs.Common.{◌∙◌}
use Rattle.review_roots.specs.Blocks.{lists}
use Rattle.review_roots.proofs.IndexLemmas.{index-step}
use Rattle.review_roots.proofs.NamingLemmas.{beside-right}
use Rattle.review_roots.proofs.base.listed_beside.Goals as goal

pub loop-index-preserved : goal.loop-index-preserved
loop-index-preserved c =
    let ground = c.args.ground in
    let bs = ground.blocks.now in
    let i = c.loop-index.index in
    let l = lists ground.checked.now c.args.person.now in
    let right = beside-right l bs c.args.passes.now c.args.row.now c.requires i c.loop-index-test.true in
    index-step l bs i right.0 c.passes_beside-passes.result
    c.loop-index.listed.items c.push_if.new.found.items c.loop-index-test.true right.1.0
    (c.passes_beside-passes.ensures ∙ right.1.1) c.loop-index.invariant c.in_ok-push_if.ensures
