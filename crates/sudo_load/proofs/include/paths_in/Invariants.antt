use Rattle.std.proofs.Common.{◌≡◌, ◌++◌, drop, map}
use Rattle.sudo_load.specs.Paths.{in_folder}
use Rattle.sudo_load.proofs.include.paths_in.Given as goal

abbrev pub invariant-loop-name : goal.invariant-loop-name
invariant-loop-name l = record {
  paths : l.paths.items ++ map (in_folder l.folder) (drop l.name-index l.names) ≡ map
      (in_folder l.folder) l.names;
}
