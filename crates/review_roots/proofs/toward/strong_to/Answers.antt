use Rattle.std.proofs.Common.{false, get_or}
use Rattle.std.specs.List.{slice_index_or}
use Rattle.review_roots.proofs.IndexLemmas.{filter-step}
use Rattle.review_grants.proofs.ListSteps.{index-there}
use Rattle.review_roots.proofs.toward.strong_to.Goals as goal

pub loop-index-preserved : goal.loop-index-preserved
loop-index-preserved c =
    let raising = c.args.ground.raising.now in
    let i = c.loop-index.index-index in
    filter-step (λ i. slice_index_or c.args.allowed.now i false) raising i (get_or raising i 0) c.is_at.result c.loop-index.strong.items
    c.push_if.new.found.items c.loop-index-test.true (index-there raising i 0 c.loop-index-test.true) c.is_at.ensures c.loop-index.invariant
    c.in_ok-push_if.ensures
