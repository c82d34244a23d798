use Rattle.std.proofs.Common.{◌≡◌, drop}
use Rattle.review_roots.specs.Body.Effects.{level_behind}
use Rattle.review_roots.proofs.effect.level_behind.Given as goal

-- the signs that are left lead from the level so far to the one behind all
abbrev pub invariant-loop-sign : goal.invariant-loop-sign
invariant-loop-sign l = level_behind l.marks l.level (drop l.sign-index l.signs) ≡ level_behind l.marks l.fn.level l.signs
