use Rattle.std.proofs.Common.{◌⊎◌, All, take}
use Rattle.std.specs.List.{Contains}
use Rattle.review_compare.specs.declared.cell.Ask.{Ask}
use Rattle.review_compare.specs.Body.SharedAsks.{HaveAnswered, IsAnsweredAlike}
use Rattle.review_compare.proofs.shared.split_asks.Given as goal

abbrev pub invariant-loop-ask : goal.invariant-loop-ask
invariant-loop-ask l = All (IsAnsweredAlike l.pair l.forms) l.answered.items
    × ((a : Ask) → Contains (take l.ask-index l.fn.asks.items) a → Contains l.own.items a ⊎ HaveAnswered l.answered.items a)
