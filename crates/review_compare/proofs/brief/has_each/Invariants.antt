use Rattle.review_compare.specs.Body.Brief.{HasEachBelow}
use Rattle.review_compare.proofs.brief.has_each.Given as goal

abbrev pub invariant-loop-group : goal.invariant-loop-group
invariant-loop-group l = HasEachBelow l.pair l.run l.target l.groups l.group
