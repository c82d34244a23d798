use Rattle.std.proofs.Common.{◌≡◌, map, take}
use Rattle.review_compare.specs.Body.Near.{near_of, row_decider}
use Rattle.review_compare.specs.Body.Shown.{all_shown}
use Rattle.review_compare.proofs.near.near_part.Given as goal

abbrev pub invariant-loop-row : goal.invariant-loop-row
invariant-loop-row l = map (row_decider l.block.place) l.rows.items
    ≡ near_of (all_shown l.changed) (map (row_decider l.block.place) (take l.row-index l.block.rows.items))
