use Rattle.std.specs.Prelude.{◌≡◌, ◌+◌, length}
use Rattle.audit_run.specs.Roster.{index_in}
use Rattle.audit_run.proofs.roster.index_within.Given as goal

abbrev pub invariant-loop-first : goal.invariant-loop-first
invariant-loop-first l = (l.index + index_in l.name l.left ≡ index_in l.name l.names) × (l.index + length l.left ≡ length l.names)

abbrev pub decreases-loop-first : goal.decreases-loop-first
decreases-loop-first l = length l.left
