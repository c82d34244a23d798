use Rattle.std.proofs.Common.{◌≡◌, ℕ, None, get_or, length}
use Rattle.review_roots.proofs.starts.no_starts.Given as goal

abbrev pub invariant-loop : goal.invariant-loop
invariant-loop l = record {
  known : length l.starts.items ≡ l.counter;
  none : (user : ℕ) → get_or l.starts.items user None ≡ None;
}
