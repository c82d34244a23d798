use Rattle.std.proofs.Common.{length}
use Rattle.review_hints.proofs.addresses.+has_short_groups.Given as goal

abbrev pub decreases-has_short_groups : goal.decreases-has_short_groups
decreases-has_short_groups l = length l.text.now
