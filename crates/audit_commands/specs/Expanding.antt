-- The output of `expand`: cvtsudoers(1), aliases written out.
use Rattle.std.specs.Prelude.{◌≡◌, ◌≢◌, ℕ, List, [], ◌∷◌, ◌++◌, Option, Some, None, flat_map, ⊤}
use Rattle.sudo_grammar.specs.declared.kind.Kind.{Kind}
use Rattle.sudo_grammar.specs.declared.kind.Member.{Member}
use Rattle.sudo_grammar.specs.declared.kind.Signed.{Signed}
use Rattle.sudo_grammar.specs.declared.policy.Policy.{Policy}
use Rattle.sudo_parser.specs.Texts.{signed_text}
use Rattle.sudo_policy.specs.Definitions.{in_force}
use Rattle.sudo_policy.specs.Written.{IsWrittenOut}
use Rattle.run_base.specs.Holding.{Holdings}
use Rattle.run_base.specs.Loading.{IsChecked, IsNotChecked}
use Rattle.run_base.specs.declared.fault.PolicyFault.TheVariants as policies
use Rattle.audit_commands.specs.declared.fault.ExpansionFault.{ExpansionFault}
use Rattle.audit_commands.specs.declared.fault.ExpansionFault.TheVariants as faults

-- the line of a member
abbrev pub member_line : Signed → List ℕ
member_line member = signed_text member ++ 10 ∷ []

-- the lines of an alias of a policy: its definition in force, written out
abbrev pub AreAliasLines : Policy → Kind → List ℕ → List ℕ → Type 0
AreAliasLines policy kind name lines =
    (members : List Member) × (atoms : List Signed) × (in_force kind policy name ≡ Some members)
    × IsWrittenOut kind policy members atoms × (lines ≡ flat_map member_line atoms)

-- the output of `expand` with status 0: the lines of an alias of the policy that the file at a path
-- unfolds to, which passes the check
abbrev pub IsExpanded : Holdings → List ℕ → Kind → List ℕ → List ℕ → ℕ → Type 0
IsExpanded held path kind name text status =
    (status ≡ 0) × ((policy : Policy) × IsChecked held path policy × AreAliasLines policy kind name text)

-- the policy that the file at a path unfolds to passes the check, and has no such alias
abbrev pub HasNoAlias : Holdings → List ℕ → Kind → List ℕ → Type 0
HasNoAlias held path kind name = (policy : Policy) × IsChecked held path policy × (in_force kind policy name ≡ None)

-- why there is nothing of an alias to print: no policy passes the check, or it has no alias of this
-- name, or memory failed
abbrev pub IsNotExpanded : Holdings → List ℕ → Kind → List ℕ → ExpansionFault → Type 0
IsNotExpanded held path kind name (faults.Policy fault) = (fault ≢ policies.Memory) × IsNotChecked held path fault
IsNotExpanded held path kind name (faults.NoSuchAlias alias) = (alias ≡ name) × HasNoAlias held path kind name
IsNotExpanded held path kind name faults.Memory = ⊤
