use Rattle.std.proofs.Common.{◌≡◌, ◌++◌, flat_map, take}
use Rattle.review_grants.specs.Body.Heads.{member_row}
use Rattle.review_grants.proofs.rows.push_command.Given as goal

-- the members so far were written
abbrev pub invariant-loop-member : goal.invariant-loop-member
invariant-loop-member l = l.text.items
    ≡ l.fn.text.items ++ flat_map (member_row l.head l.end) (take l.member-index l.member-items)
