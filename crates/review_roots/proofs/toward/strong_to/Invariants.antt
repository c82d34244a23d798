use Rattle.std.proofs.Common.{◌≡◌, false, take}
use Rattle.std.specs.Prelude.{filter}
use Rattle.std.specs.List.{slice_index_or}
use Rattle.review_roots.proofs.toward.strong_to.Given as goal

abbrev pub invariant-loop-index : goal.invariant-loop-index
invariant-loop-index l = l.strong.items ≡ filter (λ i. slice_index_or l.allowed i false) (take l.index-index l.ground.raising.now)
