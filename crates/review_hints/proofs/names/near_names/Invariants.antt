use Rattle.std.proofs.Common.{◌≡◌, map, take}
use Rattle.std.specs.Prelude.{filter}
use Rattle.review_hints.specs.Names as spec
use Rattle.review_hints.proofs.names.near_names.Given as goal

abbrev pub invariant-loop-other : goal.invariant-loop-other
invariant-loop-other l = map (λ n. n.now) l.near.items ≡ filter (spec.is_near l.name) (map (λ n. n.now) (take l.other-index l.known))
