use Rattle.std.specs.Prelude.{◌≡◌, ◌+◌, ◌≤◌, ◌++◌, length, vec_len}
use Rattle.audit_run.specs.Roster.{roster}
use Rattle.audit_run.proofs.Rosters.{others}
use Rattle.audit_run.proofs.roster.roster_of.Given as goal

abbrev pub invariant-loop-name : goal.invariant-loop-name
invariant-loop-name l = (l.found.items ++ others l.found.items (roster l.left) ≡ roster l.names)
    × (vec_len l.found + length l.left ≤ length l.names)

abbrev pub decreases-loop-name : goal.decreases-loop-name
decreases-loop-name l = length l.left
