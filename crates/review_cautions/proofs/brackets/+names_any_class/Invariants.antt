use Rattle.std.proofs.Common.{length}
use Rattle.review_cautions.proofs.brackets.+names_any_class.Given as goal

abbrev pub decreases-names_any_class : goal.decreases-names_any_class
decreases-names_any_class l = length l.chars.now
