use Rattle.std.proofs.Common.{◌≡◌, length}
use Rattle.review_cautions.specs.Brackets.{has_other_class}
use Rattle.review_cautions.proofs.brackets.has_other_class.Given as goal

abbrev pub invariant-loop-rest : goal.invariant-loop-rest
invariant-loop-rest l = has_other_class l.host l.rest ≡ has_other_class l.host l.chars

abbrev pub decreases-loop-rest : goal.decreases-loop-rest
decreases-loop-rest l = length l.rest
