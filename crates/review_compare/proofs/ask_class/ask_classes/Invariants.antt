use Rattle.std.proofs.Common.{All, take}
use Rattle.std.specs.List.{Contains}
use Rattle.review_compare.specs.declared.cell.Ask.{Ask}
use Rattle.review_compare.specs.Body.AskClasses.{HaveAsk, IsAskClass}
use Rattle.review_compare.specs.Body.SharedAsks.{HaveShared}
use Rattle.review_compare.specs.Body.Progress.{asking}
use Rattle.review_compare.proofs.ask_class.ask_classes.Given as goal

abbrev pub invariant-loop-each : goal.invariant-loop-each
invariant-loop-each l = All (IsAskClass l.pair l.person) l.classes.items
    × ((a : Ask) → Contains l.asks a → HaveAsk (asking l.pair) l.classes.items a)
    × ((a : Ask) → HaveShared (asking l.pair) (take l.each-index l.shared) a → HaveAsk (asking l.pair) l.classes.items a)
