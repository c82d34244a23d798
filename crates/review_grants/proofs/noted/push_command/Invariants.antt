use Rattle.std.proofs.Common.{◌≡◌, ◌++◌, flat_map, take}
use Rattle.review_grants.specs.Body.Noted.{member_notes}
use Rattle.review_grants.proofs.noted.push_command.Given as goal

-- the notes of the members so far were found
abbrev pub invariant-loop-member : goal.invariant-loop-member
invariant-loop-member l = l.found.items ≡ l.fn.found.items ++ flat_map (member_notes l.place) (take l.member-index l.member-items)
