use Rattle.review_compare.proofs.CellLemmas.{agreeing_rows}
use Rattle.review_compare.proofs.laws.agreeing_rows_say_same.Goals as goal

pub returns : goal.returns
returns c = agreeing_rows
