use Rattle.std.proofs.Common.{◌∙◌, List, ap, sym, subst}
use Rattle.std.specs.List.{list_all}
use Rattle.review_roots.specs.declared.block.Block.{Block}
use Rattle.review_roots.specs.declared.candidate.Candidate.{Candidate}
use Rattle.review_roots.specs.declared.state.State.{State}
use Rattle.review_roots.specs.Blocks.{AreBlocks, block_resolves}
use Rattle.review_roots.specs.Body.Alike.{AreFirstsBy, HaveAlikeRunas}
use Rattle.review_roots.specs.Body.Candidates.{AreCandidates, has_state, states_of}
use Rattle.review_roots.specs.Body.Deciding.{AreCutIds}
use Rattle.review_roots.specs.Body.Raising.{block_raises, indices}
use Rattle.review_roots.specs.Order.{IsInOrder}
use Rattle.review_roots.proofs.host.HostSteps.new.Goals as goal

pub invariant_of-result : goal.invariant_of-result
invariant_of-result c =
    let r = c.args.rules.now in
    let p = r.checked.now in
    let d = r.directory.now in
    let groups = r.groups.now in
    let blocks = sym c.as_slice-blocks.ensures.value in
    let runas = sym c.as_slice-2.ensures.value in
    let states = sym c.as_slice-3.ensures.value in
    let candidates = sym c.as_slice-4.ensures.value in
    record {
      listed = r.listed;
      tied = subst (AreBlocks p) blocks r.tied;
      raised = c.as_slice.ensures.value ∙ r.raised ∙ ap (indices (block_raises r.least)) blocks;
      alike_runas = subst (λ (bs : List Block). AreFirstsBy HaveAlikeRunas bs c.as_slice-2.result.now) blocks
          (subst (AreFirstsBy HaveAlikeRunas r.blocks.items) runas r.alike_runas);
      resolve = ap (list_all (block_resolves p)) (sym blocks) ∙ r.resolve;
      here = c.in_ok-on.ensures;
      covered = subst (λ (bs : List Block). AreCandidates p d groups r.least bs c.as_slice-3.result.now c.as_slice-4.result.now) blocks
          (subst (λ (ss : List State). AreCandidates p d groups r.least r.blocks.items ss c.as_slice-4.result.now) states
          (subst (λ (cs : List Candidate). AreCandidates p d groups r.least r.blocks.items r.states.items cs) candidates r.covered));
      unnamed = subst (λ (bs : List Block). AreCutIds p r.least bs groups r.cut) blocks r.unnamed;
      kept = λ s. ap (λ (ss : List State). has_state ss s) (sym states) ∙ r.kept s;
      states_order = subst (IsInOrder d) states r.states_order;
      candidates_order = subst (λ (cs : List Candidate). IsInOrder d (states_of cs)) candidates r.candidates_order;
      faultless = r.faultless;
    }
