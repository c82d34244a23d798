use Rattle.std.proofs.Common.{All, take}
use Rattle.std.specs.List.{Contains}
use Rattle.review_compare.specs.declared.cell.Ask.{Ask}
use Rattle.review_compare.specs.Body.AskClasses.{HaveAsk, IsAskClass}
use Rattle.review_compare.specs.Body.Progress.{asking}
use Rattle.review_compare.proofs.ask_class.own_classes.Given as goal

abbrev pub invariant-loop-ask : goal.invariant-loop-ask
invariant-loop-ask l = All (IsAskClass l.pair l.person) l.classes.items
    × ((a : Ask) → Contains (take l.ask-index l.asks) a → HaveAsk (asking l.pair) l.classes.items a)
