use Rattle.review_compare.proofs.CellLemmas.{answered_same}
use Rattle.review_compare.proofs.laws.same_cells_answer_alike.Goals as goal

pub returns : goal.returns
returns c = answered_same
