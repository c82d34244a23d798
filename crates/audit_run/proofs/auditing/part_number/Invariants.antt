use Rattle.std.specs.Prelude.{◌≡◌, ◌+◌, ◌≤◌}
use Rattle.audit_run.specs.Roster.{part_number}
use Rattle.audit_run.proofs.auditing.part_number.Given as goal

abbrev pub invariant-loop-earlier : goal.invariant-loop-earlier
invariant-loop-earlier l = (l.part ≡ part_number l.names l.earlier l.name) × (l.part ≤ 1 + l.earlier)
