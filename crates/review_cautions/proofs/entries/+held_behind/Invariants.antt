use Rattle.std.proofs.Common.{length}
use Rattle.review_cautions.proofs.entries.+held_behind.Given as goal

abbrev pub decreases-held_behind : goal.decreases-held_behind
decreases-held_behind l = length l.tags.now
