-- The opening of a file.
use Rattle.std.specs.Prelude.{◌≡◌, ⊤, ℕ, List}
use Rattle.run_base.specs.declared.fault.OpenFault.{OpenFault}
use Rattle.run_base.specs.declared.fault.OpenFault.TheVariants as faults
use Rattle.run_base.specs.declared.obstacle.Obstacle.{Obstacle}

-- why a path is not opened: it has no reader, for this reason, or memory failed
abbrev pub HasNoReader : (List ℕ → Obstacle → Type 0) → List ℕ → OpenFault → Type 0
HasNoReader Closed path (faults.CannotRead unread why) = (unread ≡ path) × Closed path why
HasNoReader Closed path faults.Memory = ⊤
