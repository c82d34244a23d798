-- The common input of the tables of a policy, their outputs, and their faults.
use Rattle.std.specs.Prelude.{◌≡◌, ◌≢◌, ⊤, ℕ, List, ◌++◌, codes, IsSome, Option, None, Some}
use Rattle.audit_commands.specs.Auditing.{IsDirectory, IsNoDirectory}
use Rattle.audit_commands.specs.FaultLines.{directory_printed}
use Rattle.audit_commands.specs.Faults.{directory_status}
use Rattle.audit_commands.specs.declared.fault.DirectoryFault.TheVariants as directories
use Rattle.audit_files.specs.Feeding.{Ahead}
use Rattle.run_base.specs.Endings.{Notices, notices}
use Rattle.run_base.specs.FaultLines.{error_line, memory_line, policy_explained, policy_printed}
use Rattle.run_base.specs.Faults.{policy_status}
use Rattle.run_base.specs.Holding.{Holdings}
use Rattle.run_base.specs.Loading.{IsNotChecked, PassesCheck}
use Rattle.run_base.specs.declared.fault.PolicyFault.TheVariants as policies
use Rattle.sudo_grammar.specs.declared.policy.Policy.{Policy}
use Rattle.sudo_match.specs.KnownRows.{KnownRows, host_named, user_named}
use Rattle.sudo_match.specs.declared.people.Machine.{Machine}
use Rattle.sudo_match.specs.declared.people.Person.{Person}
use Rattle.sudo_policy.specs.Checking.{Passes}
use Rattle.sudo_verdict.specs.Questions.{looked_up}
use Rattle.review_cautions.specs.declared.caution.Caution.{Caution}
use Rattle.review_commands.specs.CautionLines.{notice_text, program_name}
use Rattle.review_commands.specs.Reviewing.{AreCautions}
use Rattle.review_commands.specs.declared.fault.TableFault.{TableFault}
use Rattle.review_commands.specs.declared.fault.TableFault.TheVariants as tables
use Rattle.review_grants.specs.GrantRows.{grants_text}
use Rattle.review_grants.specs.WhoRows.{Sought, who_text}
use Rattle.review_subjects.specs.Subjects.{policy_subjects}
use Rattle.review_commands.specs.SubjectRows.{subjects_status, subjects_text}

-- the input of a table: the files of its policy and the path of the main one, and the bytes ahead of the readers of users
-- and of hosts
pub record Inputs : Type 1 where
  pub held : Holdings
  pub path : List ℕ
  pub users : Option Ahead
  pub hosts : Option Ahead

abbrev pub inputs_by : Holdings → List ℕ → Option Ahead → Option Ahead → Inputs
inputs_by held path users hosts = record { held = held; path = path; users = users; hosts = hosts }

-- the policy, which passes the check, the known users and hosts, and the line of the cautions on the policy
pub record IsSurveyed (given : Inputs) (policy : Policy) (directory : KnownRows) (notice : List ℕ) : Type 0 where
  pub found : List Caution
  pub are : AreCautions given.held given.path policy found
  pub passes : Passes policy
  pub is_directory : IsDirectory given.users given.hosts directory
  pub notice_is : notice ≡ notice_text found

-- why there are none: no policy passes the check; the users, the hosts or both together are refused; or memory failed
abbrev pub IsNotSurveyed : Inputs → TableFault → Type 0
IsNotSurveyed given (tables.Policy fault) = (fault ≢ policies.Memory) × IsNotChecked given.held given.path fault
IsNotSurveyed given (tables.Directory fault) = (fault ≢ directories.Memory) × PassesCheck given.held given.path
    × IsNoDirectory given.users given.hosts fault
IsNotSurveyed given (tables.NoSuchUser name) = ⊥
IsNotSurveyed given (tables.NoSuchHost name) = ⊥
IsNotSurveyed given tables.Memory = ⊤

-- a table of a policy that passes the check and of the known users and hosts: its text, and the status for it
abbrev pub Table : Type 1
Table = Policy → KnownRows → List ℕ → ℕ → Type 0

-- the output of a run that prints such a table: it, and the line of the cautions
pub record IsTabled (Made : Table) (given : Inputs) (text notice : List ℕ) (status : ℕ) : Type 0 where
  pub policy : Policy
  pub directory : KnownRows
  pub surveyed : IsSurveyed given policy directory notice
  pub made : Made policy directory text status

-- the table of grants for the user and the host of these names, where one is given, with status 0
pub record AreGrants (user host : Option (List ℕ)) (p : Policy) (d : KnownRows) (text : List ℕ) (status : ℕ) : Type 0 where
  pub person : Option Person
  pub machine : Option Machine
  pub is_person : looked_up (user_named d) user ≡ Some person
  pub is_machine : looked_up (host_named d) host ≡ Some machine
  pub text_is : text ≡ grants_text p d person machine
  pub status_is : status ≡ 0

-- the table of who may run a command, with status 0; the user to run it as, where one is asked for, is known
pub record IsWho (sought : Sought) (p : Policy) (d : KnownRows) (text : List ℕ) (status : ℕ) : Type 0 where
  pub known : IsSome (looked_up (user_named d) sought.target)
  pub text_is : text ≡ who_text p d sought
  pub status_is : status ≡ 0

-- the table of what reaches nobody, with status 5 if it has a row
abbrev pub AreSubjects : Table
AreSubjects p d text status =
    (text ≡ subjects_text p.files (policy_subjects p d)) × (status ≡ subjects_status (policy_subjects p d))

-- the directory of the input has no user of the name that is asked about
pub record LacksUser (given : Inputs) (user : Option (List ℕ)) (name : List ℕ) : Type 0 where
  pub directory : KnownRows
  pub passes : PassesCheck given.held given.path
  pub is_directory : IsDirectory given.users given.hosts directory
  pub asked : user ≡ Some name
  pub lacks : user_named directory name ≡ None

-- it has no host of that name; a user that is asked about is known
pub record LacksHost (given : Inputs) (user host : Option (List ℕ)) (name : List ℕ) : Type 0 where
  pub directory : KnownRows
  pub passes : PassesCheck given.held given.path
  pub is_directory : IsDirectory given.users given.hosts directory
  pub asked : host ≡ Some name
  pub user_known : IsSome (looked_up (user_named directory) user)
  pub lacks : host_named directory name ≡ None

-- why there is no table of grants, nor one of who may run a command: as for every table; or no known user or host has the
-- name that is given
abbrev pub IsNotGranted : Inputs → Option (List ℕ) → Option (List ℕ) → TableFault → Type 0
IsNotGranted given user host (tables.Policy fault) = IsNotSurveyed given (tables.Policy fault)
IsNotGranted given user host (tables.Directory fault) = IsNotSurveyed given (tables.Directory fault)
IsNotGranted given user host (tables.NoSuchUser name) = LacksUser given user name
IsNotGranted given user host (tables.NoSuchHost name) = LacksHost given user host name
IsNotGranted given user host tables.Memory = ⊤

-- 1: the policy is refused or has errors. 3: the users or the hosts are refused, or no known one has a name that is given.
-- 4: reading, writing or memory failed.
abbrev pub table_status : TableFault → ℕ
table_status (tables.Policy fault) = policy_status fault
table_status (tables.Directory fault) = directory_status fault
table_status (tables.NoSuchUser name) = 3
table_status (tables.NoSuchHost name) = 3
table_status tables.Memory = 4

abbrev pub table_printed : List ℕ → TableFault → List ℕ
table_printed program (tables.Policy fault) = policy_printed program fault
table_printed program (tables.Directory fault) = directory_printed program fault
table_printed program (tables.NoSuchUser name) = error_line program (codes "no such user " ++ name)
table_printed program (tables.NoSuchHost name) = error_line program (codes "no such host " ++ name)
table_printed program tables.Memory = memory_line program

-- the same text with the reason why a path cannot be read
abbrev pub table_explained : List ℕ → TableFault → List ℕ
table_explained program (tables.Policy fault) = policy_explained program fault
table_explained program (tables.Directory fault) = table_printed program (tables.Directory fault)
table_explained program (tables.NoSuchUser name) = table_printed program (tables.NoSuchUser name)
table_explained program (tables.NoSuchHost name) = table_printed program (tables.NoSuchHost name)
table_explained program tables.Memory = table_printed program tables.Memory

abbrev pub table_notices : Notices TableFault
table_notices = notices table_status table_explained program_name

-- why names are not in scope: no known user or host has one, or memory failed
abbrev pub IsNotInScope : KnownRows → Option (List ℕ) → Option (List ℕ) → TableFault → Type 0
IsNotInScope d user host (tables.NoSuchUser name) = (user ≡ Some name) × (user_named d name ≡ None)
IsNotInScope d user host (tables.NoSuchHost name) =
    (host ≡ Some name) × (host_named d name ≡ None) × IsSome (looked_up (user_named d) user)
IsNotInScope d user host tables.Memory = ⊤
IsNotInScope d user host (tables.Policy fault) = ⊥
IsNotInScope d user host (tables.Directory fault) = ⊥
