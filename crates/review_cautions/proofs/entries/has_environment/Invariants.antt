use Rattle.std.proofs.Common.{◌≡◌, drop, false, None}
use Rattle.review_cautions.specs.EntryTests.{has_environment}
use Rattle.review_cautions.proofs.entries.has_environment.Given as goal

abbrev pub invariant-loop-command : goal.invariant-loop-command
invariant-loop-command l = has_environment l.held l.dropped (drop l.command-index l.commands) ≡ has_environment None false l.commands
