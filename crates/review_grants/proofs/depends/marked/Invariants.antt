use Rattle.std.proofs.Common.{◌≡◌, take}
use Rattle.std.specs.HashMap.{get}
use Rattle.std.specs.List.{list_any}
use Rattle.sudo_text.specs.declared.line.Place.{Place}
use Rattle.review_texts.specs.declared.note.Note.{Note}
use Rattle.review_grants.specs.Body.Noted.{is_noted}
use Rattle.review_grants.specs.Depends.{is_marked, key_of, same_key}
use Rattle.review_grants.proofs.depends.marked.Given as goal

-- the notes so far are marked
abbrev pub invariant-loop-noted : goal.invariant-loop-noted
invariant-loop-noted l = (at : Place) (note : Note)
    → is_marked (get same_key l.marks (key_of at)) note ≡ list_any (is_noted at note) (take l.noted-index l.found)
