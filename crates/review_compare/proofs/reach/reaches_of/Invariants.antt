use Rattle.std.proofs.Common.{◌≡◌, map, take}
use Rattle.review_compare.specs.Body.Reaches.{reach_of}
use Rattle.review_compare.proofs.reach.reaches_of.Given as goal

abbrev pub invariant-loop-row : goal.invariant-loop-row
invariant-loop-row l = l.reaches.items ≡ map (reach_of l.old l.new) (take l.row-index l.rows)
