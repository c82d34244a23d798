use Rattle.std.proofs.Common.{take}
use Rattle.review_compare.specs.Differences.{Asking}
use Rattle.review_compare.specs.Body.AskClasses.{AreAsked}
use Rattle.review_compare.specs.Body.Merged.{AddsFound}
use Rattle.review_compare.proofs.spot.add_each.Given as goal

abbrev pub invariant-loop-targets : goal.invariant-loop-targets
invariant-loop-targets l = (asks : Asking) →
    AddsFound asks l.initial.rows.items l.fn.user l.hosts (AreAsked asks (take l.targets-index l.asked)) l.found l.rows.items
