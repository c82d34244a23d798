-- Two policies, and the known users and hosts, as the input of a comparison; and why there are none.
use Rattle.std.specs.Prelude.{◌≡◌, ◌≢◌, ◌⊎◌, ⊤, ℕ, List, Option}
use Rattle.audit_commands.specs.Auditing.{IsDirectory, IsNoDirectory}
use Rattle.audit_commands.specs.declared.fault.DirectoryFault.TheVariants as directories
use Rattle.audit_files.specs.Feeding.{Ahead}
use Rattle.run_base.specs.Holding.{Holdings}
use Rattle.run_base.specs.Loading.{IsNotChecked, PassesCheck}
use Rattle.run_base.specs.declared.fault.PolicyFault.TheVariants as policies
use Rattle.sudo_grammar.specs.declared.policy.Policy.{Policy}
use Rattle.sudo_match.specs.KnownRows.{KnownRows}
use Rattle.sudo_policy.specs.Checking.{Passes}
use Rattle.review_cautions.specs.declared.caution.Caution.{Caution}
use Rattle.review_commands.specs.CautionLines.{pair_notice}
use Rattle.review_commands.specs.Reviewing.{AreCautions}
use Rattle.review_commands.specs.declared.fault.TableFault.{TableFault}
use Rattle.review_commands.specs.declared.fault.TableFault.TheVariants as tables

-- the input of a comparison: the files of each policy and the path of its main one, and the bytes ahead of the readers of users
-- and of hosts
pub record PairInputs : Type 1 where
  pub old_held : Holdings
  pub old_path : List ℕ
  pub new_held : Holdings
  pub new_path : List ℕ
  pub users : Option Ahead
  pub hosts : Option Ahead

abbrev pub pair_by : Holdings → List ℕ → Holdings → List ℕ → Option Ahead → Option Ahead → PairInputs
pair_by old_held old_path new_held new_path users hosts = record {
  old_held = old_held;
  old_path = old_path;
  new_held = new_held;
  new_path = new_path;
  users = users;
  hosts = hosts;
}

-- both policies, which pass the check, the known users and hosts, and the lines of the cautions on each policy
pub record IsPaired (given : PairInputs) (old new : Policy) (directory : KnownRows) (notice : List ℕ) : Type 0 where
  pub old_found : List Caution
  pub new_found : List Caution
  pub old_are : AreCautions given.old_held given.old_path old old_found
  pub new_are : AreCautions given.new_held given.new_path new new_found
  pub old_passes : Passes old
  pub new_passes : Passes new
  pub is_directory : IsDirectory given.users given.hosts directory
  pub notice_is : notice ≡ pair_notice given.old_path old_found given.new_path new_found

-- both policies pass the check
abbrev pub BothPass : PairInputs → Type 0
BothPass given = PassesCheck given.old_held given.old_path × PassesCheck given.new_held given.new_path

-- why there are none: the old policy does not pass the check, or it does and the new one does not; the users, the hosts or both
-- together are refused; or memory failed
abbrev pub IsNotPaired : PairInputs → TableFault → Type 0
IsNotPaired given (tables.Policy fault) = (fault ≢ policies.Memory) × (IsNotChecked given.old_held given.old_path fault
    ⊎ (PassesCheck given.old_held given.old_path × IsNotChecked given.new_held given.new_path fault))
IsNotPaired given (tables.Directory fault) = (fault ≢ directories.Memory) × BothPass given
    × IsNoDirectory given.users given.hosts fault
IsNotPaired given (tables.NoSuchUser name) = ⊥
IsNotPaired given (tables.NoSuchHost name) = ⊥
IsNotPaired given tables.Memory = ⊤
