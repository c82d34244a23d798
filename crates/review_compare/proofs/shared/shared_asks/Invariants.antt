use Rattle.std.proofs.Common.{take}
use Rattle.review_compare.specs.Body.SharedAsks.{AreBriefly}
use Rattle.review_compare.proofs.shared.shared_asks.Given as goal

abbrev pub invariant-loop-each : goal.invariant-loop-each
invariant-loop-each l = AreBriefly l.pair (take l.each-index l.answered) l.shared.items
