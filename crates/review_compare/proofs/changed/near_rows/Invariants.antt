use Rattle.std.proofs.Common.{◌≡◌, take}
use Rattle.std.specs.Prelude.{filter}
use Rattle.review_compare.specs.Body.ChangedRows.{is_near}
use Rattle.review_compare.specs.Body.Shown.{all_shown}
use Rattle.review_compare.proofs.changed.near_rows.Given as goal

abbrev pub invariant-loop-row : goal.invariant-loop-row
invariant-loop-row l = all_shown l.near.items ≡ filter (is_near (all_shown l.changed)) (all_shown (take l.row-index l.rows))
