use Rattle.std.proofs.Common.{◌≡◌, drop}
use Rattle.review_compare.specs.Cells.{lined_of}
use Rattle.review_compare.specs.Body.Shown.{all_shown, is_covered_by, shown}
use Rattle.review_compare.proofs.reach.is_covered_from.Given as goal

-- those passed do not cover it
abbrev pub invariant-loop-index : goal.invariant-loop-index
invariant-loop-index l = is_covered_by (all_shown (drop l.from l.rows)) (lined_of (shown l.other))
    ≡ is_covered_by (all_shown (drop l.index l.rows)) (lined_of (shown l.other))
