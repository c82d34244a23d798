use Rattle.std.proofs.Common.{◌+◌, ◌++◌, ◌∙◌, ap, append-nil, arith, drop, subst, sym, take}
use Rattle.std.proofs.lemmas.List.{drop_all, take_all, take_more}
use Rattle.review_roots.specs.Body.Candidates.{AreCandidates, states_of}
use Rattle.review_roots.specs.Order.{IsInOrder}
use Rattle.review_roots.proofs.ListSteps.{drop-next}
use Rattle.review_roots.proofs.rules.gather.Goals as goal

pub loop-state-preserved : goal.loop-state-preserved
loop-state-preserved c =
    let ground = c.args.ground in
    record {
      base = c.in_ok-gather_state.ensures.base;
      gathered = subst (λ xs. AreCandidates ground.checked.now ground.directory.now ground.groups.now ground.least ground.blocks.now xs
          c.gather_state.new.gathered.candidates.items)
          (sym (take_more c.args.states.now c.loop-state.state-index _ c.loop-state-test.true))
          (c.in_ok-gather_state.ensures.candidates (take c.loop-state.state-index c.args.states.now) c.loop-state.invariant.gathered);
      order = λ d sorted.
          c.in_ok-gather_state.ensures.order d (drop (c.loop-state.state-index + 1) c.args.states.now)
          (subst (λ xs. IsInOrder d (states_of c.loop-state.gathered.candidates.items ++ xs))
          (drop-next c.args.states.now c.loop-state.state-index _ c.loop-state-test.true) (c.loop-state.invariant.order d sorted));
    }

pub returns-clause-order : goal.returns-clause-order
returns-clause-order c = λ d sorted.
    subst (IsInOrder d)
    (ap (λ xs. states_of c.loop-state.gathered.candidates.items ++ xs) (drop_all c.loop-state.state-index c.args.states.now (omega arith))
    ∙ append-nil (states_of c.loop-state.gathered.candidates.items))
    (c.loop-state.invariant.order d sorted)

pub returns-clause-candidates : goal.returns-clause-candidates
returns-clause-candidates c =
    let ground = c.args.ground in
    subst (λ xs. AreCandidates ground.checked.now ground.directory.now ground.groups.now ground.least ground.blocks.now xs
    c.loop-state.gathered.candidates.items)
    (take_all c.loop-state.state-index c.args.states.now (omega arith))
    c.loop-state.invariant.gathered
