use Rattle.std.proofs.Common.{take}
use Rattle.review_compare.specs.Body.Brief.{AreBut}
use Rattle.review_compare.proofs.brief.asks_but.Given as goal

abbrev pub invariant-loop-ask : goal.invariant-loop-ask
invariant-loop-ask l = AreBut l.pair l.target l.groups (take l.ask-index l.asks) l.left.items
