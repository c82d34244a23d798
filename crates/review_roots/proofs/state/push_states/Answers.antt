use Rattle.std.proofs.Common.{◌∙◌, ◌++◌, ◌∷◌, [], List, ap, append_assoc, arith, sym}
use Rattle.std.proofs.lemmas.List.FromFn.{map-range_with_len_more}
use Rattle.review_roots.specs.declared.state.State.{State}
use Rattle.review_roots.specs.States.{state_with, states_with}
use Rattle.review_roots.proofs.state.push_states.Goals as goal

pub loop-user-preserved : goal.loop-user-preserved
loop-user-preserved c =
    let at = c.loop-user.user in
    let added = c.args.added in
    c.in_ok-push.ensures.items ∙ ap (λ (xs : List State). xs ++ state_with added at ∷ []) c.loop-user.invariant
    ∙ append_assoc c.args.states.now.items (states_with at added) (state_with added at ∷ [])
    ∙ ap (λ (xs : List State). c.args.states.now.items ++ xs) (sym (map-range_with_len_more (state_with added) 0 at at (omega arith)))
