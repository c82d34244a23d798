use Rattle.std.proofs.Common.{◌≡◌, drop}
use Rattle.review_compare.specs.Cases.{same_rows}
use Rattle.review_compare.specs.Body.Shown.{all_shown}
use Rattle.review_compare.proofs.cases.are_same_rows.Given as goal

-- those passed are the same
abbrev pub invariant-loop-index : goal.invariant-loop-index
invariant-loop-index l = same_rows (all_shown l.rows) (all_shown l.others)
    ≡ same_rows (all_shown (drop l.index l.rows)) (all_shown (drop l.index l.others))
