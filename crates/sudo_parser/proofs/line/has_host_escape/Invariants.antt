use Rattle.std.proofs.Common.{◌≡◌, length}
use Rattle.sudo_grammar.specs.Openings.{has_host_escape}
use Rattle.sudo_parser.proofs.line.has_host_escape.Given as goal

abbrev pub invariant-chars : goal.invariant-chars
invariant-chars l = has_host_escape l.path ≡ has_host_escape l.rest

abbrev pub decreases-chars : goal.decreases-chars
decreases-chars l = length l.rest
