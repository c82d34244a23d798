use Rattle.std.proofs.Common.{◌≡◌, length}
use Rattle.review_roots.specs.Body.Found.{AreStartsBefore}
use Rattle.review_roots.proofs.starts.set_starts.Given as goal

abbrev pub invariant-loop-index : goal.invariant-loop-index
invariant-loop-index l = record {
  known : length l.starts ≡ length l.initial.starts;
  starts : AreStartsBefore l.found l.index l.starts;
}
