-- The files of an audit, opened. Only proofs of bodies use these.
use Rattle.std.specs.Prelude.{◌≡◌, ⊤, ℕ, List}
use Rattle.run_base.specs.declared.fault.OpenFault.{OpenFault}
use Rattle.run_base.specs.declared.fault.OpenFault.TheVariants as opens
use Rattle.run_base.specs.declared.obstacle.Obstacle.{Obstacle}
use Rattle.audit_commands.specs.declared.fault.SourcesFault.{SourcesFault}
use Rattle.audit_commands.specs.declared.fault.SourcesFault.TheVariants as faults
use Rattle.audit_commands.specs.Opening.{IsFirstBad, IsFirstClosed}

-- why words are not senders: the first bad one, or memory failed
abbrev pub AreNotSenders : List (List ℕ) → SourcesFault → Type 0
AreNotSenders words (faults.BadSender word) = IsFirstBad words word
AreNotSenders words (faults.Unopened fault) = fault ≡ opens.Memory

-- why paths are not opened: the first that has no reader, or memory failed
abbrev pub HaveNoReaders : {R : Type 0} → (List ℕ → R → Type 0) → (List ℕ → Obstacle → Type 0) → List (List ℕ) → OpenFault → Type 0
HaveNoReaders Opens Closed paths (opens.CannotRead path why) = IsFirstClosed Opens Closed paths path why
HaveNoReaders Opens Closed paths opens.Memory = ⊤
