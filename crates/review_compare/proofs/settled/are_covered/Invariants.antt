use Rattle.std.proofs.Common.{drop}
use Rattle.review_compare.specs.Body.Chosen.{chosen}
use Rattle.review_compare.specs.Body.Settled.{AreCovered}
use Rattle.review_compare.specs.Body.Shown.{all_shown}
use Rattle.review_compare.proofs.settled.are_covered.Given as goal

-- if the rows that are left are covered, all are
abbrev pub invariant-loop-row : goal.invariant-loop-row
invariant-loop-row l =
    AreCovered (chosen l.parts.new.items l.later) (all_shown (drop l.row-index l.rows))
    → AreCovered (chosen l.parts.new.items l.later) (all_shown l.rows)
