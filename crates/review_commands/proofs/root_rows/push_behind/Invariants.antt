use Rattle.std.proofs.Common.{◌≡◌, ◌++◌, ◌∷◌, drop, flat_map}
use Rattle.review_commands.specs.RootRows.{behind, state_text}
use Rattle.review_commands.proofs.root_rows.push_behind.Given as goal

-- with the states that are left, the text is the whole
abbrev pub invariant-loop-state : goal.invariant-loop-state
invariant-loop-state l =
    l.fn.text.items ++ flat_map (λ b. 32 ∷ 62 ∷ 32 ∷ state_text l.directory l.groups b) (behind l.user l.states)
    ≡ l.text.items ++ flat_map (λ b. 32 ∷ 62 ∷ 32 ∷ state_text l.directory l.groups b) (behind l.before (drop l.state-index l.states))
