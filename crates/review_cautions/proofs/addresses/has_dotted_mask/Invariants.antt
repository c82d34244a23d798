use Rattle.std.proofs.Common.{◌≡◌, drop, false}
use Rattle.review_cautions.specs.Addresses.{has_dotted_mask}
use Rattle.review_cautions.proofs.addresses.has_dotted_mask.Given as goal

abbrev pub invariant-loop-ch : goal.invariant-loop-ch
invariant-loop-ch l = has_dotted_mask l.behind (drop l.ch-index l.chars) ≡ has_dotted_mask false l.chars
