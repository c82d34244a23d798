use Rattle.std.proofs.Common.{◌≡◌, length}
use Rattle.sudo_load.specs.Supplies.{supplied_folder}
use Rattle.sudo_load.proofs.supply.find_folder.Given as goal

abbrev pub invariant-loop-supply : goal.invariant-loop-supply
invariant-loop-supply l = record { left : supplied_folder l.supplies l.path ≡ supplied_folder l.left l.path }

abbrev pub decreases-loop-supply : goal.decreases-loop-supply
decreases-loop-supply l = length l.left
