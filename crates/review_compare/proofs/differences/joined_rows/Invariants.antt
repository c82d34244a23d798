use Rattle.std.proofs.Common.{◌≡◌, ◌++◌, ◌*◌, [], length, option_copied}
use Rattle.std.specs.Vec.Iter.{into_iter_items}
use Rattle.review_compare.specs.Body.Progress.{Progress, IsUserBefore}
use Rattle.review_compare.proofs.differences.joined_rows.Given as goal

abbrev pub invariant-loop-part : goal.invariant-loop-part
invariant-loop-part l =
    record {
      can_next : (goal.iterator-loop-part).can_next l.part-iterator;
      is_finite : (goal.iterator-loop-part).is_finite l.part-iterator;
      rest : l.yielded ++ into_iter_items l.part-iterator ≡ l.fn.parts.items;
      done : Progress l.pair [] l.rows.items (IsUserBefore l.pair (option_copied l.scope.user)
          (option_copied l.scope.host) (length l.yielded * l.size) l.asks.all.items);
    }
