use Rattle.std.proofs.Common.{◌≡◌, ◌++◌, drop}
use Rattle.review_subjects.specs.Subjects.{command_subjects}
use Rattle.review_subjects.proofs.entries.push_commands.Given as goal

abbrev pub invariant-loop-command : goal.invariant-loop-command
invariant-loop-command l =
    l.found.items ++ command_subjects l.directory l.place (drop l.command-index l.commands)
    ≡ l.initial.found.items ++ command_subjects l.directory l.place l.commands
