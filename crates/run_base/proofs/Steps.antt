-- The contracts of the loading and of the check of a policy from those of their parts.
use Rattle.std.proofs.Common.{◌≡◌, ℕ, List, Option, Some, Result, Ok, Err, inl, inr, refl}
use Rattle.std.specs.Prelude.{IfErr}
use Rattle.sudo_grammar.specs.declared.policy.Policy.{Policy}
use Rattle.sudo_load.specs.Load.{IsLoad}
use Rattle.sudo_load.specs.declared.fault.LoadFault.{LoadFault}
use Rattle.sudo_load.specs.declared.fault.LoadFault.TheVariants as load_faults
use Rattle.sudo_load.specs.declared.fault.Want.{Want}
use Rattle.sudo_load.specs.declared.supply.Supply.{Supply}
use Rattle.run_base.specs.Holding.{AreHeld, Holdings}
use Rattle.run_base.specs.Loading.{EndsIn, IsLoaded, IsNoPolicy, IsNotChecked, IsOfContent, text_at_fault}
use Rattle.run_base.specs.Body.Loading.{IsNotCheckedOf, IsNotHanded}
use Rattle.run_base.specs.declared.fault.PolicyFault.{PolicyFault}
use Rattle.run_base.specs.declared.fault.PolicyFault.TheVariants as faults

pub not_passed : (held : Holdings) (path : List ℕ) (policy : Policy) (fault : PolicyFault)
    → IsLoaded held path policy → IsNotCheckedOf policy fault → IsNotChecked held path fault
not_passed held path policy (faults.Errors lines) loaded h = (policy, loaded, h)
not_passed held path policy faults.Memory loaded h = tt
not_passed held path policy (faults.Refused files fault text) loaded h = absurd h
not_passed held path policy (faults.CannotRead unread why) loaded h = absurd h
not_passed held path policy (faults.TooLong long) loaded h = absurd h
not_passed held path policy faults.TooManyFiles loaded h = absurd h

pub not_passed_of : {T : Type 0} (held : Holdings) (path : List ℕ) (policy : Policy) (r : Result T PolicyFault)
    → IsLoaded held path policy → IfErr r (IsNotCheckedOf policy) → IfErr r (IsNotChecked held path)
not_passed_of held path policy (Ok x) loaded h = tt
not_passed_of held path policy (Err fault) loaded h = not_passed held path policy fault loaded h

-- What is needed is not handed in.
pub wanted_unread : (held : Holdings) (path : List ℕ) (want : Want) (read : List (List ℕ))
    (fault : PolicyFault) → EndsIn held path read (load_faults.Wanted want) → IsNotHanded held want fault → IsNoPolicy held path fault
wanted_unread held path want read (faults.CannotRead unread why) ends not = inl (inr (want, not.0, (read, ends)), not.1)
wanted_unread held path want read (faults.TooLong long) ends not = (inr (want, not.0, (read, ends)), not.1)
wanted_unread held path want read faults.Memory ends not = tt
wanted_unread held path want read (faults.Refused files fault text) ends not = absurd not
wanted_unread held path want read (faults.Errors lines) ends not = absurd not
wanted_unread held path want read faults.TooManyFiles ends not = absurd not

of_content : (fault : LoadFault) → ((want : Want) → fault ≡ load_faults.Wanted want → ⊥) → (fault ≡ load_faults.Memory → ⊥)
    → IsOfContent fault
of_content (load_faults.Parse fault) wanted memory = tt
of_content (load_faults.TooNested place) wanted memory = tt
of_content (load_faults.TooMany place) wanted memory = tt
of_content (load_faults.Missing place path) wanted memory = tt
of_content (load_faults.Wanted want) wanted memory = wanted want refl
of_content load_faults.Memory wanted memory = memory refl

-- The content of what was read is refused.
pub unloaded : (held : Holdings) (path text : List ℕ) (handed : List Supply) (read : List (List ℕ)) (fault : LoadFault)
    (faulty : Option (List ℕ)) → ((want : Want) → fault ≡ load_faults.Wanted want → ⊥) → (fault ≡ load_faults.Memory → ⊥)
    → held.is_file path (Some text) → AreHeld held handed → IsLoad path text handed (Err (read, fault))
    → faulty ≡ text_at_fault text handed read fault → IsNoPolicy held path (faults.Refused read fault faulty)
unloaded held path text handed read fault faulty wanted memory main are load is =
    (of_content fault wanted memory, (text, handed, main, are, load, is))
