use Rattle.std.proofs.Common.{◌∙◌, Bool, List, ap, false}
use Rattle.std.specs.List.{slice_index_or}
use Rattle.review_roots.specs.Blocks.{lists}
use Rattle.review_roots.proofs.IndexLemmas.{answer-at, index-step}
use Rattle.review_roots.proofs.SoleLemmas.{there-itself, there-some}
use Rattle.review_roots.proofs.candidate.listed_of.Goals as goal

pub loop-index-preserved : goal.loop-index-preserved
loop-index-preserved c =
    let bs = c.args.ground.blocks.now in
    let l = lists c.args.ground.checked.now c.args.person.now in
    let i = c.loop-index.index in
    let b = there-some bs i c.loop-index-test.true in
    index-step l bs i b.0 c.is_at.result
    c.loop-index.listed.items c.push_if.new.found.items c.loop-index-test.true (there-itself bs i b.0 c.loop-index-test.true b.1)
    (c.is_at.ensures ∙ ap (λ (xs : List Bool). slice_index_or xs i false) (c.deref.ensures.value ∙ c.in_ok-passes.ensures)
    ∙ answer-at l bs i b.0 b.1) c.loop-index.invariant c.in_ok-push_if.ensures
