use Rattle.std.proofs.Common.{◌≡◌, drop}
use Rattle.review_roots.specs.Body.Effects.{free_behind}
use Rattle.review_roots.proofs.effect.is_free_behind.Given as goal

abbrev pub invariant-loop-sign : goal.invariant-loop-sign
invariant-loop-sign l = free_behind l.marks l.tags l.free (drop l.sign-index l.signs) ≡ free_behind l.marks l.tags l.fn.free l.signs
