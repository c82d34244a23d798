use Rattle.std.proofs.Common.{◌≡◌, ◌≤◌, length, take}
use Rattle.review_compare.specs.Cells.{verdict_among}
use Rattle.review_compare.specs.Lines.{Choice}
use Rattle.review_compare.specs.Body.Shown.{all_shown}
use Rattle.review_compare.proofs.witness.sure_verdict.Given as goal

-- those passed do not fit
abbrev pub invariant-loop-end : goal.invariant-loop-end
invariant-loop-end l = record {
  within : l.end ≤ length l.rows;
  same : (met : Choice) → verdict_among met (all_shown l.rows) l.command l.arguments
      ≡ verdict_among met (all_shown (take l.end l.rows)) l.command l.arguments;
}

abbrev pub decreases-loop-end : goal.decreases-loop-end
decreases-loop-end l = l.end
