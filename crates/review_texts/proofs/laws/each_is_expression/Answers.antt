use Rattle.review_texts.proofs.ReadingLemmas.{each_is_expression}
use Rattle.review_texts.proofs.laws.each_is_expression.Goals as goal

pub returns : goal.returns
returns c = each_is_expression
