use Rattle.std.proofs.Common.{◌≡◌, ◌++◌}
use Rattle.review_roots.specs.States.{states_with}
use Rattle.review_roots.proofs.state.push_states.Given as goal

abbrev pub invariant-loop-user : goal.invariant-loop-user
invariant-loop-user l = l.states.items ≡ l.initial.states.items ++ states_with l.user l.added
