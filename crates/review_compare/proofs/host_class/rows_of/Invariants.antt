use Rattle.std.proofs.Common.{◌≤◌, [], length, take}
use Rattle.review_compare.specs.Body.AskClasses.{HaveAsk}
use Rattle.review_compare.specs.Body.Classes.{IsOnClasses}
use Rattle.review_compare.specs.Body.Progress.{Progress, asking}
use Rattle.review_compare.proofs.host_class.rows_of.Given as goal

abbrev pub invariant-loop-index : goal.invariant-loop-index
invariant-loop-index l = Progress l.pair [] l.rows.items (IsOnClasses l.fn.user l.classes (HaveAsk (asking l.pair) (take l.index l.asked)))
    × (l.index ≤ length l.asked)
