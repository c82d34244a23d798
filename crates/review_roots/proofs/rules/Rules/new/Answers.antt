use Rattle.std.proofs.Common.{◌∙◌, List, ap, sym, subst}
use Rattle.std.specs.List.{list_all}
use Rattle.review_roots.specs.declared.state.State.{State}
use Rattle.review_roots.specs.Body.Alike.{AreFirsts, AreFirstsBy, HaveAlikeRunas, host_list}
use Rattle.review_roots.specs.Body.Candidates.{has_state}
use Rattle.review_roots.specs.Blocks.{block_resolves}
use Rattle.review_roots.specs.Body.Deciding.{AreCutIds}
use Rattle.review_roots.specs.Body.Raising.{block_raises, indices}
use Rattle.review_roots.specs.Order.{IsInOrder}
use Rattle.review_roots.proofs.rules.Rules.new.Goals as goal

pub invariant_of-result-clause-raised : goal.invariant_of-result-clause-raised
invariant_of-result-clause-raised c =
    c.in_ok-raising.ensures ∙ ap (indices (block_raises c.args.least)) c.deref.ensures.value

pub invariant_of-result-clause-kept : goal.invariant_of-result-clause-kept
invariant_of-result-clause-kept c = λ s.
    c.in_ok-sort_states.ensures.same s ∙ ap (λ (ss : List State). has_state ss s) c.in_ok-states.ensures

pub invariant_of-result-clause-candidates_order : goal.invariant_of-result-clause-candidates_order
invariant_of-result-clause-candidates_order c =
    let d = c.args.directory.now in
    c.in_ok-candidates.ensures.order d (subst (IsInOrder d) (sym c.deref-7.ensures.value) c.in_ok-sort_states.ensures.sorted)

pub invariant_of-result-clause-unnamed : goal.invariant_of-result-clause-unnamed
invariant_of-result-clause-unnamed c =
    subst (λ bs. AreCutIds c.args.checked.now c.args.least bs c.args.groups.now c.in_ok-cut.cut) c.deref-5.ensures.value c.in_ok-cut.ensures

pub invariant_of-result-clause-likened : goal.invariant_of-result-clause-likened
invariant_of-result-clause-likened c =
    subst (λ bs. AreFirsts host_list bs c.in_ok-alike.alike.items) c.deref-3.ensures.value c.in_ok-alike.ensures

pub invariant_of-result-clause-alike_runas : goal.invariant_of-result-clause-alike_runas
invariant_of-result-clause-alike_runas c =
    subst (λ bs. AreFirstsBy HaveAlikeRunas bs c.in_ok-runas.runas.items) c.deref-4.ensures.value c.in_ok-runas.ensures
