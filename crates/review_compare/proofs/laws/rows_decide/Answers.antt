use Rattle.review_compare.proofs.CellLemmas.{rows_decide}
use Rattle.review_compare.proofs.UnnotedLemmas.{nothing_depends}
use Rattle.review_compare.proofs.laws.rows_decide.Goals as goal

pub returns : goal.returns
returns c = record { all_met = rows_decide; unnoted = nothing_depends }
