use Rattle.std.proofs.Common.{◌++◌, ◌∷◌, [], ◌∙◌, List, None, ℕ, ap, append_assoc, get_or}
use Rattle.review_roots.specs.declared.state.State.{State}
use Rattle.review_commands.specs.RootRows.{state_text}
use Rattle.review_commands.proofs.RootSteps.{behind-next, item-there}
use Rattle.review_commands.proofs.root_rows.push_behind.Goals as goal

pub loop-state-preserved : goal.loop-state-preserved
loop-state-preserved c =
    let d = c.args.directory.now in
    let g = c.args.groups.now in
    let at = c.loop-state.state-index in
    let before = c.loop-state.before in
    let other : State = record { user = 0; added = None } in
    let s : State = get_or c.args.states.now at other in
    behind-next (λ b. 32 ∷ 62 ∷ 32 ∷ state_text d g b) c.args.states.now at before s _ c.loop-state.text.items c.push_state.new.text.items
    c.loop-state-test.true (item-there c.args.states.now at other c.loop-state-test.true) c.loop-state.invariant
    (c.in_ok-push_state.ensures ∙ ap (λ (t : List ℕ). t ++ state_text d g (before, s)) c.in_ok-extend_from_slice.ensures.items
    ∙ append_assoc c.loop-state.text.items (32 ∷ 62 ∷ 32 ∷ []) (state_text d g (before, s)))
