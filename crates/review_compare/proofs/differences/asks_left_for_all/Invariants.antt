use Rattle.std.proofs.Common.{take}
use Rattle.review_compare.specs.Body.Progress.{AreLeftForAll}
use Rattle.review_compare.proofs.differences.asks_left_for_all.Given as goal

abbrev pub invariant-loop-ask : goal.invariant-loop-ask
invariant-loop-ask l = AreLeftForAll l.pair (take l.ask-index l.asks) l.left.items
