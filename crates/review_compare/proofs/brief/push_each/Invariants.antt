use Rattle.std.proofs.Common.{take}
use Rattle.review_compare.specs.Body.AskClasses.{AddsAsks}
use Rattle.review_compare.proofs.brief.push_each.Given as goal

abbrev pub invariant-loop-ask : goal.invariant-loop-ask
invariant-loop-ask l = AddsAsks l.pair l.initial.brief.items (take l.ask-index l.asks) l.brief.items
