use Rattle.std.proofs.Common.{length}
use Rattle.review_compare.proofs.BriefLemmas.{IsBriefSoFar}
use Rattle.review_compare.proofs.brief.brief_asks.Given as goal

abbrev pub invariant-loop-left : goal.invariant-loop-left
invariant-loop-left l = IsBriefSoFar l.pair l.asks l.left l.brief.items

abbrev pub decreases-loop-left : goal.decreases-loop-left
decreases-loop-left l = length l.left
