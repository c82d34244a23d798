use Rattle.std.proofs.Common.{◌≡◌, ◌++◌, drop}
use Rattle.std.specs.List.{filter_map}
use Rattle.sudo_load.specs.Included.{wanted_by}
use Rattle.sudo_load.proofs.include.named_in.Given as goal

abbrev pub invariant-loop-entry : goal.invariant-loop-entry
invariant-loop-entry l = record {
  wanted_by : l.wants.items ++ filter_map (wanted_by l.file)
      (drop l.entry-index l.entries) ≡ filter_map (wanted_by l.file) l.entries;
}
