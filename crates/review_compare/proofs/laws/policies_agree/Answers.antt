use Rattle.review_compare.proofs.ComparedLemmas.{policies_agree}
use Rattle.review_compare.proofs.laws.policies_agree.Goals as goal

pub returns : goal.returns
returns c = policies_agree
