use Rattle.std.proofs.Common.{◌≡◌, ◌++◌, drop}
use Rattle.std.specs.Prelude.{flat_map}
use Rattle.audit_commands.specs.Expanding.{member_line}
use Rattle.audit_commands.proofs.expand.member_lines.Given as goal

abbrev pub invariant-loop-member : goal.invariant-loop-member
invariant-loop-member l = record {
  lines : l.lines.items ++ flat_map member_line (drop l.member-index l.members)
      ≡ flat_map member_line l.members;
}
