use Rattle.std.proofs.Common.{◌≡◌, ◌++◌, map, drop}
use Rattle.std.specs.Prelude.{filter}
use Rattle.sudo_policy.specs.Definitions.{MemberList}
use Rattle.review_cautions.specs.Body.Looking.{scanned_view}
use Rattle.review_cautions.specs.NoteTests.{list_has_note}
use Rattle.review_cautions.specs.Cautions.{distinct_places, note_caution, note_cautions}
use Rattle.review_cautions.proofs.notes.push_noted.Given as goal

abbrev pub invariant-loop-list : goal.invariant-loop-list
invariant-loop-list l = l.found.items ++ map (note_caution l.note) (distinct_places l.before
    (map (λ (m : MemberList). m.place) (filter (list_has_note l.note) (map scanned_view (drop l.list-index l.lists)))))
    ≡ l.initial.found.items ++ note_cautions l.note (map scanned_view l.lists)
