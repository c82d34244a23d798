-- Why there is nothing of an alias to print. Only proofs of bodies use these.
use Rattle.std.specs.Prelude.{◌≡◌, List, ℕ, None, ⊤}
use Rattle.sudo_grammar.specs.declared.kind.Kind.{Kind}
use Rattle.sudo_grammar.specs.declared.policy.Policy.{Policy}
use Rattle.sudo_policy.specs.Definitions.{in_force}
use Rattle.audit_commands.specs.declared.fault.ExpansionFault.{ExpansionFault}
use Rattle.audit_commands.specs.declared.fault.ExpansionFault.TheVariants as faults

-- why a policy has nothing of an alias to print
abbrev pub IsNotShownOf : Policy → Kind → List ℕ → ExpansionFault → Type 0
IsNotShownOf policy kind name (faults.Policy fault) = ⊥
IsNotShownOf policy kind name (faults.NoSuchAlias alias) = (alias ≡ name) × (in_force kind policy name ≡ None)
IsNotShownOf policy kind name faults.Memory = ⊤
