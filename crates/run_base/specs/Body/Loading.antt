-- The policy of a run. Only proofs of bodies use these.
use Rattle.std.specs.Prelude.{◌≡◌, ⊤, ℕ, List}
use Rattle.sudo_grammar.specs.declared.policy.Policy.{Policy}
use Rattle.sudo_load.specs.declared.fault.Want.{Want}
use Rattle.run_base.specs.Holding.{Holdings}
use Rattle.run_base.specs.declared.files.FilesFault.{FilesFault}
use Rattle.run_base.specs.declared.files.FilesFault.TheVariants as files
use Rattle.run_base.specs.declared.fault.PolicyFault.{PolicyFault}
use Rattle.run_base.specs.declared.fault.PolicyFault.TheVariants as faults
use Rattle.run_base.specs.FaultTexts.{wanted_path}
use Rattle.run_base.specs.Loading.{AreErrorsOf}

-- why a loaded policy does not pass the check
abbrev pub IsNotCheckedOf : Policy → PolicyFault → Type 0
IsNotCheckedOf policy (faults.Errors lines) = AreErrorsOf policy lines.items
IsNotCheckedOf policy faults.Memory = ⊤
IsNotCheckedOf policy (faults.Refused files fault text) = ⊥
IsNotCheckedOf policy (faults.CannotRead unread why) = ⊥
IsNotCheckedOf policy (faults.TooLong long) = ⊥
IsNotCheckedOf policy faults.TooManyFiles = ⊥

-- the fault of a path that could not be read
abbrev pub IsUnfetched : List ℕ → FilesFault → PolicyFault → Type 0
IsUnfetched path (files.Failed why) fault = fault ≡ faults.CannotRead path why
IsUnfetched path files.TooLong fault = fault ≡ faults.TooLong path
IsUnfetched path files.Memory fault = fault ≡ faults.Memory

-- why what is needed is not handed in: memory failed, reading it fails, or it is too long
abbrev pub IsNotHanded : Holdings → Want → PolicyFault → Type 0
IsNotHanded held want (faults.CannotRead unread why) = (unread ≡ wanted_path want) × held.is_unreadable unread why
IsNotHanded held want (faults.TooLong long) = (long ≡ wanted_path want) × held.is_long long
IsNotHanded held want faults.Memory = ⊤
IsNotHanded held want (faults.Refused files fault text) = ⊥
IsNotHanded held want (faults.Errors lines) = ⊥
IsNotHanded held want faults.TooManyFiles = ⊥
