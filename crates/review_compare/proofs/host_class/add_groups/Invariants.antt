use Rattle.std.proofs.Common.{take}
use Rattle.review_compare.specs.Body.AskClasses.{AreAsked}
use Rattle.review_compare.specs.Body.Classes.{IsOnFound}
use Rattle.review_compare.specs.Body.Progress.{Progress, asking}
use Rattle.review_compare.proofs.host_class.add_groups.Given as goal

abbrev pub invariant-loop-group : goal.invariant-loop-group
invariant-loop-group l = Progress l.pair l.fn.rows.items l.rows.items (IsOnFound l.fn.user (take l.group-index l.groups)
    (AreAsked (asking l.pair) l.asks.asked.items))
