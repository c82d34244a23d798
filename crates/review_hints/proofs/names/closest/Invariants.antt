use Rattle.std.proofs.Common.{◌≡◌, map, take}
use Rattle.std.specs.Prelude.{fold}
use Rattle.review_hints.specs.Names as spec
use Rattle.review_hints.proofs.names.closest.Given as goal

abbrev pub invariant-loop-other : goal.invariant-loop-other
invariant-loop-other l = l.found ≡ fold (spec.closer l.name) l.initial.found (map (λ n. n.now) (take l.other-index l.others))
