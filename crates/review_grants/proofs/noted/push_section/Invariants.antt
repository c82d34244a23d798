use Rattle.std.proofs.Common.{◌≡◌, ◌++◌, flat_map, take}
use Rattle.review_grants.specs.Body.Noted.{command_notes}
use Rattle.review_grants.proofs.noted.push_section.Given as goal

-- the notes of the commands so far were found
abbrev pub invariant-loop-command : goal.invariant-loop-command
invariant-loop-command l =
    l.found.items ≡ l.fn.found.items ++ flat_map (command_notes l.checked l.place) (take l.command-index l.commands)
