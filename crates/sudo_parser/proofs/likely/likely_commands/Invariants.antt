use Rattle.std.proofs.Common.{◌≤◌}
use Rattle.sudo_parser.proofs.likely.likely_commands.Given as goal

abbrev pub invariant-loop-token : goal.invariant-loop-token
invariant-loop-token l = l.count ≤ 1024
