use Rattle.std.proofs.Common.{◌∙◌, ap, arith, get_or}
use Rattle.std.specs.Prelude.{filter}
use Rattle.std.proofs.lemmas.List.{take_all}
use Rattle.review_roots.specs.Blocks.{lists}
use Rattle.review_roots.specs.Body.Raising.{block_raises, passes_at}
use Rattle.review_roots.proofs.IndexLemmas.{filter-step, indices-filtered}
use Rattle.review_grants.proofs.ListSteps.{index-there}
use Rattle.review_roots.proofs.candidate.strong_of.Goals as goal

pub loop-index-preserved : goal.loop-index-preserved
loop-index-preserved c =
    let ground = c.args.ground in
    let i = c.loop-index.index-index in
    filter-step (passes_at (lists ground.checked.now c.args.person.now) ground.blocks.now) ground.raising.now i
    (get_or ground.raising.now i 0) c.lists_at-passes.result c.loop-index.strong.items c.push_if.new.found.items
    c.loop-index-test.true (index-there ground.raising.now i 0 c.loop-index-test.true) c.lists_at-passes.ensures
    c.loop-index.invariant c.in_ok-push_if.ensures

pub returns : goal.returns
returns c =
    let ground = c.args.ground in
    let t = passes_at (lists ground.checked.now c.args.person.now) ground.blocks.now in
    c.loop-index.invariant
    ∙ ap (filter t) (take_all c.loop-index.index-index ground.raising.now (omega (arith, c.loop-index-test.false)) ∙ ground.raised)
    ∙ indices-filtered (block_raises ground.least) (lists ground.checked.now c.args.person.now) ground.blocks.now
