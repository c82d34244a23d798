use Rattle.std.proofs.Common.{◌≡◌, drop}
use Rattle.review_compare.specs.Body.Near.{has_near}
use Rattle.review_compare.specs.Body.Shown.{all_shown}
use Rattle.review_compare.proofs.near.has_near.Given as goal

-- none of the rows passed is near
abbrev pub invariant-loop-row : goal.invariant-loop-row
invariant-loop-row l =
    has_near (all_shown l.changed) (all_shown l.rows) ≡ has_near (all_shown l.changed) (all_shown (drop l.row-index l.rows))
