use Rattle.std.proofs.Common.{◌≡◌, map, drop}
use Rattle.review_cautions.specs.Body.Looking.{scanned_view}
use Rattle.review_cautions.specs.Cautions.{linked_cautions}
use Rattle.review_cautions.proofs.lists.push_linked.Given as goal

abbrev pub invariant-loop-list : goal.invariant-loop-list
invariant-loop-list l = record {
  found : l.found.items ≡ l.initial.found.items;
  ahead : linked_cautions l.links (map scanned_view (drop l.list-index l.lists)) ≡ linked_cautions l.links (map scanned_view l.lists);
}
