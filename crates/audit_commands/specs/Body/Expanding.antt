-- The output of `expand`: cvtsudoers(1), aliases written out. Only proofs of bodies use these.
use Rattle.std.specs.Prelude.{◌≡◌, ℕ, List, None, ⊤}
use Rattle.sudo_grammar.specs.declared.kind.Kind.{Kind}
use Rattle.sudo_grammar.specs.declared.policy.Policy.{Policy}
use Rattle.sudo_policy.specs.Definitions.{in_force}
use Rattle.audit_commands.specs.declared.fault.ExpansionFault.{ExpansionFault}
use Rattle.audit_commands.specs.declared.fault.ExpansionFault.TheVariants as faults

-- why a policy has nothing of an alias to print
abbrev pub IsNotExpandedOf : Policy → Kind → List ℕ → ExpansionFault → Type 0
IsNotExpandedOf policy kind name (faults.Policy fault) = ⊥
IsNotExpandedOf policy kind name (faults.NoSuchAlias alias) = (alias ≡ name) × (in_force kind policy name ≡ None)
IsNotExpandedOf policy kind name faults.Memory = ⊤
