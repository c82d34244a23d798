use Rattle.std.proofs.Common.{◌&&◌, ◌∙◌, Bool, List, ap, false}
use Rattle.std.specs.List.{slice_index_or}
use Rattle.review_roots.specs.Blocks.{with_rows}
use Rattle.review_roots.specs.Body.Raising.{passes_at}
use Rattle.review_roots.specs.Body.Towards.{asker_allowed}
use Rattle.review_roots.proofs.IndexLemmas.{part-same}
use Rattle.review_roots.proofs.host.HostSteps.with_asked.Goals as goal

pub returns : goal.returns
returns c =
    let h = c.args.self.now in
    let p = h.checked.now in
    let d = h.directory.now in
    let a = c.args.asker in
    let i = c.args.index in
    c.with_block_if.ensures
    ∙ ap (with_rows c.args.given)
    (part-same (λ i b. slice_index_or h.on.items i false && asker_allowed p d a b) h.blocks.now i c.stands_at-stands.result
    (c.stands_at-stands.ensures
    ∙ ap (λ (xs : List Bool). passes_at (λ b. slice_index_or xs i false && asker_allowed p d a b) h.blocks.now i) c.deref.ensures.value))
