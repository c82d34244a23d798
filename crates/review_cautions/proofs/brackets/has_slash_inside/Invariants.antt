use Rattle.std.proofs.Common.{◌≡◌, drop, false}
use Rattle.review_cautions.specs.Brackets.{has_slash_inside}
use Rattle.review_cautions.proofs.brackets.has_slash_inside.Given as goal

abbrev pub invariant-loop-ch : goal.invariant-loop-ch
invariant-loop-ch l = has_slash_inside l.inside l.before (drop l.ch-index l.path) ≡ has_slash_inside false 0 l.path
