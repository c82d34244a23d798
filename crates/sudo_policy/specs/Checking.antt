-- The result of the check of a policy: visudo(8) in its strict mode, with this program's limits.
use Rattle.std.specs.Prelude.{◌≡◌, true, false, List}
use Rattle.sudo_policy.specs.declared.checking.CheckFault.{CheckFault}
use Rattle.sudo_policy.specs.declared.checking.CheckFault.TheVariants.{Findings, Memory}
use Rattle.sudo_policy.specs.declared.finding.Finding.{Finding}
use Rattle.sudo_grammar.specs.declared.policy.Policy.{Policy}
use Rattle.sudo_policy.specs.Found.{AreFindings, has_error}

-- the findings of the policy have no error
pub record Passes (p : Policy) : Type 0 where
  pub found : List Finding
  pub are : AreFindings p found
  pub none : has_error found ≡ false

-- the findings of the policy, of which one is an error
pub record FailsCheck (p : Policy) (found : List Finding) : Type 0 where
  pub are : AreFindings p found
  pub some : has_error found ≡ true

-- a refusal hands the policy back, with all findings if one is an error
abbrev pub RefusesPolicy : Policy → CheckFault → Type 0
RefusesPolicy p (Findings back found) = (back ≡ p) × FailsCheck p found
RefusesPolicy p (Memory back) = back ≡ p
