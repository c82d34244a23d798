use Rattle.review_compare.proofs.CoveringLemmas.{covers_sound, disjoint_is_sound}
use Rattle.review_compare.proofs.laws.tests_are_sound.Goals as goal

pub returns : goal.returns
returns c = record { covers = covers_sound; disjoint = disjoint_is_sound }
