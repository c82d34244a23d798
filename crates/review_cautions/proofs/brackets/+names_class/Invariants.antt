use Rattle.std.proofs.Common.{length}
use Rattle.review_cautions.proofs.brackets.+names_class.Given as goal

abbrev pub decreases-names_class : goal.decreases-names_class
decreases-names_class l = length l.name.now
