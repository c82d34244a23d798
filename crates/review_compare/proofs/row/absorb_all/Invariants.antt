use Rattle.review_compare.specs.Body.Merged.{AbsorbsAll}
use Rattle.review_compare.proofs.row.absorb_all.Given as goal

abbrev pub invariant-loop-row : goal.invariant-loop-row
invariant-loop-row l = AbsorbsAll l.initial.rows.items l.yielded l.rows.items
