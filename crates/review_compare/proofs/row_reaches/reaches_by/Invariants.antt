use Rattle.std.proofs.Common.{◌≡◌, map, take}
use Rattle.review_compare.specs.Body.Reaches.{reach_of}
use Rattle.review_compare.proofs.row_reaches.reaches_by.Given as goal

abbrev pub invariant-loop-row : goal.invariant-loop-row
invariant-loop-row l =
    l.reaches.items ≡ map (reach_of l.trial.old_rows.now l.trial.new_rows.now) (take l.row-index l.rows)
