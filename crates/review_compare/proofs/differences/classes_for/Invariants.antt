use Rattle.std.proofs.Common.{All, option_copied}
use Rattle.review_compare.specs.declared.cell.Cell.{Cell}
use Rattle.review_compare.specs.Body.AskClasses.{HaveAsk}
use Rattle.review_compare.specs.Body.Classes.{IsClass, IsClassed}
use Rattle.review_compare.specs.Body.Comparisons.{AreRight}
use Rattle.review_compare.specs.Body.Progress.{IsBefore, asking}
use Rattle.review_compare.proofs.differences.classes_for.Given as goal

abbrev pub invariant-loop-host : goal.invariant-loop-host
invariant-loop-host l =
    ((c : Cell) → IsBefore l.pair (option_copied l.scope) l.fn.user l.host (HaveAsk (asking l.pair) l.asked) c →
    IsClassed l.pair l.classes.items c)
    × All (IsClass l.pair l.fn.user l.person l.asked) l.classes.items
    × AreRight l.pair l.comparisons
