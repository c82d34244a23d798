use Rattle.std.proofs.Common.{◌≡◌, take}
use Rattle.std.specs.List.{list_any}
use Rattle.review_texts.specs.declared.note.Note.{Note}
use Rattle.review_grants.specs.Depends.{has_mark, is_noted_at}
use Rattle.review_compare.specs.Body.Shown.{all_shown}
use Rattle.review_compare.proofs.noted_policy.NotedPolicy.marks.Given as goal

-- the notes of the rows that were passed are marked
abbrev pub invariant-loop-row : goal.invariant-loop-row
invariant-loop-row l = (note : Note) → has_mark l.marks note
    ≡ list_any (λ d. is_noted_at l.self.checked.now d.place note) (all_shown (take l.row-index l.cases.noted.items))
