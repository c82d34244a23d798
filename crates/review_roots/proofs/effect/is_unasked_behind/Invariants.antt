use Rattle.std.proofs.Common.{◌≡◌, drop}
use Rattle.review_roots.specs.Body.Effects.{unasked_behind}
use Rattle.review_roots.proofs.effect.is_unasked_behind.Given as goal

abbrev pub invariant-loop-sign : goal.invariant-loop-sign
invariant-loop-sign l =
    unasked_behind l.marks l.tags l.unasked (drop l.sign-index l.signs) ≡ unasked_behind l.marks l.tags l.fn.unasked l.signs
