use Rattle.sudo_verdict.specs.Body.Recalling.{IsNumbering}
use Rattle.sudo_verdict.proofs.index.aliases.named.Given as goal

abbrev pub invariant-loop-entry : goal.invariant-loop-entry
invariant-loop-entry l = IsNumbering l.names l.count
