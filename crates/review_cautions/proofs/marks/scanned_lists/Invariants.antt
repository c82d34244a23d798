use Rattle.std.proofs.Common.{◌≡◌, map}
use Rattle.sudo_policy.specs.Definitions.{list_view}
use Rattle.review_cautions.specs.Body.Looking.{scanned_view}
use Rattle.review_cautions.proofs.marks.scanned_lists.Given as goal

abbrev pub invariant-loop-list : goal.invariant-loop-list
invariant-loop-list l = map scanned_view l.scanned.items ≡ map list_view l.yielded
