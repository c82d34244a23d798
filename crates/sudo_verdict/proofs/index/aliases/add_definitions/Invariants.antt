use Rattle.sudo_verdict.specs.Body.Recalling.{IsNumbering}
use Rattle.sudo_verdict.proofs.index.aliases.add_definitions.Given as goal

abbrev pub invariant-loop-definition : goal.invariant-loop-definition
invariant-loop-definition l = IsNumbering l.names l.count
