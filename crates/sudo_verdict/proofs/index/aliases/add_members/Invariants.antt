use Rattle.sudo_verdict.specs.Body.Recalling.{IsNumbering}
use Rattle.sudo_verdict.proofs.index.aliases.add_members.Given as goal

abbrev pub invariant-loop-member : goal.invariant-loop-member
invariant-loop-member l = IsNumbering l.names l.count
