use Rattle.std.proofs.Common.{◌≡◌, length}
use Rattle.sudo_load.specs.Supplies.{supplied_file}
use Rattle.sudo_load.proofs.supply.find_file.Given as goal

abbrev pub invariant-loop-supply : goal.invariant-loop-supply
invariant-loop-supply l = record { left : supplied_file l.supplies l.path ≡ supplied_file l.left l.path }

abbrev pub decreases-loop-supply : goal.decreases-loop-supply
decreases-loop-supply l = length l.left
