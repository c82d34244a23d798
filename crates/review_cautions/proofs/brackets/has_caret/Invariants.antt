use Rattle.std.proofs.Common.{◌≡◌, drop, false}
use Rattle.review_cautions.specs.Brackets.{has_caret}
use Rattle.review_cautions.proofs.brackets.has_caret.Given as goal

abbrev pub invariant-loop-ch : goal.invariant-loop-ch
invariant-loop-ch l = has_caret l.opened (drop l.ch-index l.chars) ≡ has_caret false l.chars
