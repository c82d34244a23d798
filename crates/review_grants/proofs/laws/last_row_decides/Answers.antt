use Rattle.review_grants.proofs.RowLemmas.{rows_apply, last_row}
use Rattle.review_grants.proofs.laws.last_row_decides.Goals as goal

pub returns : goal.returns
returns c = record { splits = rows_apply; decides = last_row }
