use Rattle.std.proofs.Common.{◌≡◌, take}
use Rattle.review_compare.specs.Body.Chosen.{chosen}
use Rattle.review_compare.specs.Body.Shown.{all_shown}
use Rattle.review_compare.proofs.side.rows_at.Given as goal

abbrev pub invariant-loop-index : goal.invariant-loop-index
invariant-loop-index l = all_shown l.rows.items ≡ chosen l.blocks (take l.index-index l.indices)
