use Rattle.std.proofs.Common.{option_copied, take}
use Rattle.std.specs.Prelude.{All}
use Rattle.review_roots.specs.Body.Deciding.{IsPassed}
use Rattle.review_roots.proofs.cut.start_of.Given as goal

abbrev pub invariant-loop-index : goal.invariant-loop-index
invariant-loop-index l = All (IsPassed l.least (option_copied l.name)) (take l.index l.blocks)
