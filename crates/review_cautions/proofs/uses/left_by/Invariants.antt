use Rattle.std.proofs.Common.{◌≡◌, ◌++◌, length, map}
use Rattle.review_cautions.specs.Body.Looking.{scanned_view}
use Rattle.review_cautions.specs.Body.UnusedNames.{left_by}
use Rattle.review_cautions.proofs.uses.left_by.Given as goal

abbrev pub invariant-loop-rest : goal.invariant-loop-rest
invariant-loop-rest l = map scanned_view l.left.items ++ left_by l.ahead (map scanned_view l.rest)
    ≡ left_by l.marks (map scanned_view l.lists)

abbrev pub decreases-loop-rest : goal.decreases-loop-rest
decreases-loop-rest l = length l.rest
