use Rattle.std.proofs.Common.{length}
use Rattle.review_hints.proofs.names.+same_word.Given as goal

abbrev pub decreases-same_word : goal.decreases-same_word
decreases-same_word l = length l.known.now
