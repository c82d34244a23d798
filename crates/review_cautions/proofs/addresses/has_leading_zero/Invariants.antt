use Rattle.std.proofs.Common.{◌≡◌, drop, false}
use Rattle.review_cautions.specs.Addresses.{has_leading_zero}
use Rattle.review_cautions.proofs.addresses.has_leading_zero.Given as goal

abbrev pub invariant-loop-ch : goal.invariant-loop-ch
invariant-loop-ch l = has_leading_zero l.inside l.zero (drop l.ch-index l.chars) ≡ has_leading_zero false false l.chars
