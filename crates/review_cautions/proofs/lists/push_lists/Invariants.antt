use Rattle.std.proofs.Common.{◌≡◌, ◌++◌, map, drop}
use Rattle.std.specs.Prelude.{filter}
use Rattle.sudo_policy.specs.Definitions.{MemberList}
use Rattle.review_cautions.specs.Body.Looking.{scanned_view}
use Rattle.review_cautions.specs.ListTests.{list_holds}
use Rattle.review_cautions.specs.Cautions.{caution_at, distinct_places, list_cautions}
use Rattle.review_cautions.proofs.lists.push_lists.Given as goal

abbrev pub invariant-loop-list : goal.invariant-loop-list
invariant-loop-list l = l.found.items ++ map (caution_at l.class) (distinct_places l.before
    (map (λ (m : MemberList). m.place) (filter (list_holds l.class) (map scanned_view (drop l.list-index l.lists)))))
    ≡ l.initial.found.items ++ list_cautions l.class (map scanned_view l.lists)
