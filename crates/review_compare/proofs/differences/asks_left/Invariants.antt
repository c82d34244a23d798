use Rattle.std.proofs.Common.{take}
use Rattle.review_compare.specs.Body.Progress.{AreLeft}
use Rattle.review_compare.proofs.differences.asks_left.Given as goal

abbrev pub invariant-loop-ask : goal.invariant-loop-ask
invariant-loop-ask l = AreLeft l.pair l.person (take l.ask-index l.asks) l.left.items
