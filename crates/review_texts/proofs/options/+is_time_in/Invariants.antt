use Rattle.std.proofs.Common.{length}
use Rattle.review_texts.proofs.options.+is_time_in.Given as goal

abbrev pub decreases-is_time_in : goal.decreases-is_time_in
decreases-is_time_in l = length l.units.now
