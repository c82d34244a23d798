-- The output of `audit`.
use Rattle.std.specs.Prelude.{◌≡◌, ◌≢◌, ⊤, ℕ, List, Option, None, Some, Result, Ok, Err}
use Rattle.audit_collect.specs.declared.report.Report.{Report}
use Rattle.audit_files.specs.Feeding.{Ahead}
use Rattle.audit_files.specs.Faults.{IsNotOutOfMemory}
use Rattle.audit_files.specs.Files.{IsRead}
use Rattle.audit_files.specs.Hosts.{machines}
use Rattle.audit_files.specs.Users.{people}
use Rattle.audit_run.specs.Names.{names_under}
use Rattle.audit_run.specs.Passes.{PassView}
use Rattle.audit_files.specs.Report.{report_text}
use Rattle.audit_run.specs.IsAuditResult.{IsResult, LeavesPass}
use Rattle.audit_run.specs.declared.fault.AuditFault.{AuditFault}
use Rattle.sudo_match.specs.declared.fault.DirFault.{DirFault}
use Rattle.sudo_match.specs.KnownRows.{KnownRows, directory_fault}
use Rattle.sudo_match.specs.declared.people.Machine.{Machine}
use Rattle.sudo_match.specs.declared.people.Person.{Person}
use Rattle.sudo_grammar.specs.declared.policy.Policy.{Policy}
use Rattle.run_base.specs.Holding.{Holdings}
use Rattle.run_base.specs.Loading.{IsChecked, PassesCheck, IsNotChecked}
use Rattle.run_base.specs.declared.fault.PolicyFault.TheVariants as policies
use Rattle.audit_commands.specs.NamedFaults.{fault_named}
use Rattle.audit_commands.specs.declared.fault.DirectoryFault.{DirectoryFault}
use Rattle.audit_commands.specs.declared.fault.DirectoryFault.TheVariants as directories
use Rattle.audit_commands.specs.declared.fault.ReportFault.{ReportFault}
use Rattle.audit_commands.specs.declared.fault.ReportFault.TheVariants as reports

-- the input of an audit: the files of its policy and the path of the main one, the bytes ahead of
-- the readers of users and of hosts, the names of its sources, the bytes ahead of their readers,
-- and the number of workers
pub record Given : Type 1 where
  pub held : Holdings
  pub path : List ℕ
  pub users : Option Ahead
  pub hosts : Option Ahead
  pub sources : List (List ℕ)
  pub readable_bytes : List (Option Ahead)
  pub workers : ℕ

-- the input, its parts in this order
abbrev pub given_by : Holdings → List ℕ → Option Ahead → Option Ahead → List (List ℕ) → List (Option Ahead) → ℕ → Given
given_by held path users hosts sources bytes workers =
    (record { held = held; path = path; users = users; hosts = hosts; sources = sources; readable_bytes = bytes; workers = workers })

-- these are the users and hosts that the files state, and they have no fault
abbrev pub IsDirectory : Option Ahead → Option Ahead → KnownRows → Type 0
IsDirectory users hosts directory = IsRead people users (Ok directory.people) × IsRead machines hosts (Ok directory.machines)
    × (directory_fault directory.people directory.machines ≡ None)

-- the files state users and hosts that have this fault together
abbrev pub AreRefused : Option Ahead → Option Ahead → DirFault → Type 0
AreRefused users hosts fault = (persons : List Person) × (rows : List Machine) × IsRead people users (Ok persons)
    × IsRead machines hosts (Ok rows) × (directory_fault persons rows ≡ Some fault)

-- why the files state no directory: the users file has a fault; it is sound, and the hosts file has
-- one; or both are sound, and their rows together have one; or memory failed
abbrev pub IsNoDirectory : Option Ahead → Option Ahead → DirectoryFault → Type 0
IsNoDirectory users hosts (directories.Users fault) = IsNotOutOfMemory fault × IsRead people users (Err fault)
IsNoDirectory users hosts (directories.Hosts fault) =
    IsNotOutOfMemory fault × ((persons : List Person) × IsRead people users (Ok persons)) × IsRead machines hosts (Err fault)
IsNoDirectory users hosts (directories.Both fault) = AreRefused users hosts fault
IsNoDirectory users hosts directories.Memory = ⊤

-- the result of an audit of the sources under a policy and a directory, by this many workers
pub record Answers (policy : Policy) (directory : KnownRows) (sources : List (List ℕ))
    (readable_bytes : List (Option Ahead)) (workers : ℕ) (result : Result Report AuditFault) : Type 0 where
  pub before : PassView
  pub after : PassView
  pub audited : IsResult (names_under policy directory) sources readable_bytes result
  pub leaves : LeavesPass (names_under policy directory) sources readable_bytes workers before after result audited

-- why an audit under a policy and a directory has no report
abbrev pub IsUnreported : Policy → KnownRows → List (List ℕ) → List (Option Ahead) → ℕ → ReportFault → Type 0
IsUnreported policy directory sources readable_bytes workers (reports.Requests named) =
    (fault : AuditFault) × Answers policy directory sources readable_bytes workers (Err fault) × (fault_named sources fault ≡ Some named)
IsUnreported policy directory sources readable_bytes workers reports.Memory = ⊤
IsUnreported policy directory sources readable_bytes workers (reports.Policy fault) = ⊥
IsUnreported policy directory sources readable_bytes workers (reports.Directory fault) = ⊥

-- the result of an audit under a policy and the directory that the files state
pub record IsAnswerUnder (policy : Policy) (users hosts : Option Ahead) (sources : List (List ℕ))
    (readable_bytes : List (Option Ahead)) (workers : ℕ) (result : Result Report AuditFault) : Type 0 where
  pub directory : KnownRows
  pub is_directory : IsDirectory users hosts directory
  pub answers : Answers policy directory sources readable_bytes workers result

-- why there is no report under a policy: the files state no directory, or the audit has none
abbrev pub IsNoAnswer : Policy → Option Ahead → Option Ahead → List (List ℕ) → List (Option Ahead) → ℕ → ReportFault → Type 0
IsNoAnswer policy users hosts sources readable_bytes workers (reports.Directory fault) =
    (fault ≢ directories.Memory) × IsNoDirectory users hosts fault
IsNoAnswer policy users hosts sources readable_bytes workers (reports.Requests named) =
    (fault : AuditFault) × IsAnswerUnder policy users hosts sources readable_bytes workers (Err fault)
    × (fault_named sources fault ≡ Some named)
IsNoAnswer policy users hosts sources readable_bytes workers reports.Memory = ⊤
IsNoAnswer policy users hosts sources readable_bytes workers (reports.Policy fault) = ⊥

-- the result of an audit under the policy, which passes the check, and the directory that the files
-- state; it is one that any number of workers may return
pub record IsAnswer (given : Given) (policy : Policy) (result : Result Report AuditFault) : Type 0 where
  pub is_policy : IsChecked given.held given.path policy
  pub directory : KnownRows
  pub is_directory : IsDirectory given.users given.hosts directory
  pub answers : IsResult (names_under policy directory) given.sources given.readable_bytes result

-- the output of `audit` with status 0: the text of the report
pub record IsAudited (given : Given) (text : List ℕ) (status : ℕ) : Type 0 where
  pub policy : Policy
  pub report : Report
  pub answer : IsAnswer given policy (Ok report)
  pub text_is : text ≡ report_text policy.files report
  pub status_is : status ≡ 0

-- why there is no report, in this order: no policy passes the check; the users, the hosts or both
-- together are refused; the audit returns a fault, which names the sender; or memory failed
abbrev pub IsNotAudited : Given → ReportFault → Type 0
IsNotAudited given (reports.Policy fault) = (fault ≢ policies.Memory) × IsNotChecked given.held given.path fault
IsNotAudited given (reports.Directory fault) = (fault ≢ directories.Memory) × PassesCheck given.held given.path
    × IsNoDirectory given.users given.hosts fault
IsNotAudited given (reports.Requests named) =
    (policy : Policy) × (fault : AuditFault) × IsAnswer given policy (Err fault) × (fault_named given.sources fault ≡ Some named)
IsNotAudited given reports.Memory = ⊤
