use Rattle.std.proofs.Common.{◌≡◌, flat_map, take}
use Rattle.review_grants.specs.Body.Noted.{entry_notes}
use Rattle.review_grants.proofs.noted.entry_notes.Given as goal

-- the notes of the entries so far were found
abbrev pub invariant-loop-entry : goal.invariant-loop-entry
invariant-loop-entry l = l.found.items ≡ flat_map (entry_notes l.checked) (take l.entry-index l.entries)
