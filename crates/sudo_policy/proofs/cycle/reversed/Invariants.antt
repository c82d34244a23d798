use Rattle.std.proofs.Common.{◌≡◌, ℕ, List, [], length, Some, Option}
use Rattle.std.specs.Prelude.{slice_get}
use Rattle.sudo_policy.specs.Body.Marking.{ReversesUpTo}
use Rattle.sudo_policy.proofs.cycle.reversed.Given as goal

abbrev pub invariant-loop : goal.invariant-loop
invariant-loop l = record {
  long : length l.back.items ≡ l.counter;
  empty : (j : ℕ) (r : List (Option ℕ)) → slice_get l.back.items j ≡ Some r → r ≡ [];
}

abbrev pub invariant-loop-from : goal.invariant-loop-from
invariant-loop-from l = ReversesUpTo l.links l.from l.back.items
