use Rattle.std.proofs.Common.{◌≡◌, ◌++◌, take}
use Rattle.review_roots.specs.Body.Kept.{states_by}
use Rattle.review_roots.proofs.kept.push_each.Given as goal

abbrev pub invariant-loop-index : goal.invariant-loop-index
invariant-loop-index l = l.states.items ≡ l.initial.states.items ++ states_by l.user (take l.index-index l.indices)
