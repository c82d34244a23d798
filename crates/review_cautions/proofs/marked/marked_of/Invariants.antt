use Rattle.std.proofs.Common.{◌≡◌, map, take}
use Rattle.std.specs.Prelude.{filter}
use Rattle.review_cautions.specs.Body.Looking.{scanned_view}
use Rattle.review_cautions.specs.Marks.{list_is_marked}
use Rattle.review_cautions.proofs.marked.marked_of.Given as goal

abbrev pub invariant-loop-list : goal.invariant-loop-list
invariant-loop-list l = map scanned_view l.marked.items ≡ filter list_is_marked (map scanned_view (take l.list-index l.lists))
