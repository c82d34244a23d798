use Rattle.std.proofs.Common.{[]}
use Rattle.review_compare.specs.Body.Merged.{AbsorbsAll}
use Rattle.review_compare.proofs.row.grouped.Given as goal

abbrev pub invariant-loop-row : goal.invariant-loop-row
invariant-loop-row l = AbsorbsAll [] l.yielded l.grouped.items
