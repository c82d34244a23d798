use Rattle.std.proofs.Common.{length}
use Rattle.review_hints.proofs.addresses.+gap_count.Given as goal

abbrev pub decreases-gap_count : goal.decreases-gap_count
decreases-gap_count l = length l.text.now
