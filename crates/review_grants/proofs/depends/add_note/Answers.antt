use Rattle.std.proofs.Common.{◌∙◌, ◌||◌, ap}
use Rattle.std.specs.HashMap.{get}
use Rattle.review_grants.specs.Depends.{key_of, same_key, same_note}
use Rattle.review_grants.proofs.NotedLemmas.{note-more}
use Rattle.review_grants.proofs.depends.add_note.Goals as goal

pub returns : goal.returns
returns c = λ at note. note-more c.args.noted at note (get same_key c.args.marks.now) _ c.with_note-found.result
    (c.with_note-found.ensures note ∙ ap (λ b. b || same_note note c.args.noted.note) (c.marks_at.ensures note))
    (c.in_ok-insert.ensures.updates.0 (key_of at))
