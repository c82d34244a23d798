use Rattle.std.proofs.Common.{◌≡◌, ◌++◌, take}
use Rattle.review_compare.specs.Body.Shown.{all_shown}
use Rattle.review_compare.proofs.near.push_all.Given as goal

abbrev pub invariant-loop-row : goal.invariant-loop-row
invariant-loop-row l = all_shown l.all.items ≡ all_shown l.initial.all.items ++ all_shown (take l.row-index l.rows)
