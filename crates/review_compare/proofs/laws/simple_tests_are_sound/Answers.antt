use Rattle.review_compare.proofs.SimplyLemmas.{covers_simply_sound, disjoint_simply_sound}
use Rattle.review_compare.proofs.laws.simple_tests_are_sound.Goals as goal

pub returns : goal.returns
returns c = record { covers = covers_simply_sound; disjoint = disjoint_simply_sound }
