use Rattle.std.proofs.Common.{◌≡◌, ◌++◌, drop}
use Rattle.std.specs.Prelude.{filter}
use Rattle.sudo_load.specs.Paths.{is_kept}
use Rattle.sudo_load.proofs.include.kept_names.Given as goal

abbrev pub invariant-loop-name : goal.invariant-loop-name
invariant-loop-name l = record { kept : l.kept.items ++ filter is_kept (drop l.name-index l.names) ≡ filter is_kept l.names }
