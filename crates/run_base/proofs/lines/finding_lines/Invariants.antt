use Rattle.std.proofs.Common.{◌≡◌, ◌++◌, drop}
use Rattle.std.specs.Prelude.{flat_map}
use Rattle.run_base.specs.FindingLines.{listed_line}
use Rattle.run_base.proofs.lines.finding_lines.Given as goal

abbrev pub invariant-loop-finding : goal.invariant-loop-finding
invariant-loop-finding l = record {
  lines : l.lines.items ++ flat_map (listed_line l.files l.errors_alone)
      (drop l.finding-index l.findings) ≡ flat_map (listed_line l.files l.errors_alone) l.findings;
}
