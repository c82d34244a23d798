use Rattle.review_compare.proofs.AgreementLemmas.{agreement}
use Rattle.review_compare.proofs.laws.rulings_agree.Goals as goal

pub returns : goal.returns
returns g c = agreement _ _
