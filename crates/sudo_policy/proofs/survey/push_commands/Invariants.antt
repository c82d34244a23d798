use Rattle.std.proofs.Common.{◌≡◌, ◌++◌, map, drop}
use Rattle.std.specs.Prelude.{flat_map}
use Rattle.sudo_policy.specs.Definitions.{command_lists, list_view}
use Rattle.sudo_policy.proofs.survey.push_commands.Given as goal

abbrev pub invariant-loop-command : goal.invariant-loop-command
invariant-loop-command l = map list_view l.all.items ++ flat_map (command_lists l.place)
    (drop l.command-index l.commands) ≡ map list_view l.initial.all.items ++ flat_map (command_lists l.place) l.commands
