use Rattle.std.proofs.Common.{◌≡◌, ◌++◌, flat_map, take}
use Rattle.std.specs.List.{enumerate_from}
use Rattle.review_grants.specs.Body.Heads.{HoldsBehind, place_rows}
use Rattle.review_grants.proofs.rows.push_section.Given as goal

-- the text has the records of the commands so far, and the state their runas and tags
abbrev pub invariant-loop-spec : goal.invariant-loop-spec
invariant-loop-spec l = HoldsBehind l.checked (take l.spec-index l.commands) l.in_force
    × (l.text.items ≡ l.fn.text.items
    ++ flat_map (place_rows l.checked l.head l.depends l.commands) (take l.spec-index (enumerate_from 0 l.commands)))
