use Rattle.std.proofs.Common.{◌≤◌, [], option_copied}
use Rattle.review_compare.specs.Body.Comparisons.{AreRight}
use Rattle.review_compare.specs.Body.Progress.{Progress, IsUserBetween}
use Rattle.review_compare.proofs.differences.rows_between.Given as goal

abbrev pub invariant-loop-user : goal.invariant-loop-user
invariant-loop-user l =
    record {
      behind : l.first ≤ l.user;
      done : Progress l.pair [] l.rows.items (IsUserBetween l.pair (option_copied l.scope.user)
          (option_copied l.scope.host) l.first l.user l.asks.all.items);
      right : AreRight l.pair l.comparisons;
    }
