use Rattle.std.proofs.Common.{◌≡◌, drop}
use Rattle.review_compare.specs.Body.ChangedRows.{is_near}
use Rattle.review_compare.specs.Body.Shown.{all_shown, shown}
use Rattle.review_compare.proofs.changed.is_near.Given as goal

-- the row is near none of those passed
abbrev pub invariant-loop-other : goal.invariant-loop-other
invariant-loop-other l = is_near (all_shown l.changed) (shown l.row) ≡ is_near (all_shown (drop l.other-index l.changed)) (shown l.row)
