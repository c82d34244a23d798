use Rattle.std.proofs.Common.{◌≡◌, ◌++◌, drop, flat_map}
use Rattle.review_subjects.specs.Body.Places.{command_places}
use Rattle.review_subjects.proofs.rules.push_commands.Given as goal

abbrev pub invariant-loop-command : goal.invariant-loop-command
invariant-loop-command l =
    l.found.items ++ flat_map (command_places l.checked l.place) (drop l.command-index l.commands)
    ≡ l.initial.found.items ++ flat_map (command_places l.checked l.place) l.commands
