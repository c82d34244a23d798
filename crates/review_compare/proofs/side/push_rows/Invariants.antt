use Rattle.std.proofs.Common.{◌≡◌, ◌++◌, map, take}
use Rattle.review_compare.specs.Blocks.{block_decider}
use Rattle.review_compare.specs.Body.Shown.{all_shown}
use Rattle.review_compare.proofs.side.push_rows.Given as goal

abbrev pub invariant-loop-row : goal.invariant-loop-row
invariant-loop-row l = all_shown l.rows.items
    ≡ all_shown l.initial.rows.items ++ map (block_decider l.block) (take l.row-index l.block.rows.items)
