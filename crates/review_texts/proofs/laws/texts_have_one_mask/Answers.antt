use Rattle.review_texts.proofs.OneMask.{one_text}
use Rattle.review_texts.proofs.laws.texts_have_one_mask.Goals as goal

pub returns : goal.returns
returns c = λ noted text a b is other. one_text noted text a b is other
