use Rattle.review_texts.proofs.MeaningLemmas.{bounds_hold}
use Rattle.review_texts.proofs.laws.bounds_hold.Goals as goal

pub returns : goal.returns
returns c = bounds_hold
