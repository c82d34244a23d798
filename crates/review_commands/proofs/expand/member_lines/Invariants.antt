use Rattle.std.proofs.Common.{◌≡◌, ◌++◌, drop}
use Rattle.std.specs.Prelude.{flat_map}
use Rattle.review_commands.specs.Expanding.{shown_line}
use Rattle.review_commands.proofs.expand.member_lines.Given as goal

abbrev pub invariant-loop-member : goal.invariant-loop-member
invariant-loop-member l = record {
  lines : l.lines.items ++ flat_map shown_line (drop l.member-index l.members)
      ≡ flat_map shown_line l.members;
}
