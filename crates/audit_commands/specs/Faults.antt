-- Faults that end the program with a status other than 0.
use Rattle.std.specs.Prelude.{ℕ}
use Rattle.audit_files.specs.declared.fault.FileFault.{FileFault}
use Rattle.audit_files.specs.declared.fault.FileFault.TheVariants as file_faults
use Rattle.sudo_match.specs.declared.fault.DirFault.{DirFault}
use Rattle.sudo_match.specs.declared.fault.DirFault.TheVariants as directories
use Rattle.run_base.specs.Faults.{open_status, policy_status}
use Rattle.audit_commands.specs.declared.fault.DirectoryFault.{DirectoryFault}
use Rattle.audit_commands.specs.declared.fault.DirectoryFault.TheVariants as directory_faults
use Rattle.audit_commands.specs.declared.fault.ExpansionFault.{ExpansionFault}
use Rattle.audit_commands.specs.declared.fault.ExpansionFault.TheVariants as expansions
use Rattle.audit_commands.specs.declared.fault.ReportFault.{ReportFault}
use Rattle.audit_commands.specs.declared.fault.ReportFault.TheVariants as reports
use Rattle.audit_commands.specs.declared.fault.SourcesFault.{SourcesFault}
use Rattle.audit_commands.specs.declared.fault.SourcesFault.TheVariants as sources
use Rattle.audit_commands.specs.declared.requests_fault.RequestsFault.{RequestsFault}
use Rattle.audit_commands.specs.declared.requests_fault.RequestsFault.TheVariants as requests

-- 1: the policy is refused, has errors or has no such alias. 2: a word of the command line names no
-- sender. 3: the users, the hosts or the requests are refused. 4: reading, writing, a thread or
-- memory failed.

-- the status for a file that is refused: reading it failed, memory failed, or its content is
-- refused
abbrev pub file_status : FileFault → ℕ
file_status file_faults.Read = 4
file_status file_faults.Memory = 4
file_status fault = 3

-- the status for users and hosts that are refused together
abbrev pub both_status : DirFault → ℕ
both_status directories.Memory = 4
both_status fault = 3

-- the status for users and hosts that form no directory: they are refused, or memory failed
abbrev pub directory_status : DirectoryFault → ℕ
directory_status (directory_faults.Users fault) = file_status fault
directory_status (directory_faults.Hosts fault) = file_status fault
directory_status (directory_faults.Both fault) = both_status fault
directory_status directory_faults.Memory = 4

-- the status for requests that have no report: a file is refused, the requests are, or a thread could not be started
abbrev pub requests_status : RequestsFault → ℕ
requests_status (requests.File sender part fault) = file_status fault
requests_status requests.NoThread = 4
requests_status fault = 3

-- the status for files that are not opened
abbrev pub sources_status : SourcesFault → ℕ
sources_status (sources.BadSender word) = 2
sources_status (sources.Unopened fault) = open_status fault

-- the status for an alias that is not written out
abbrev pub expansion_status : ExpansionFault → ℕ
expansion_status (expansions.Policy fault) = policy_status fault
expansion_status (expansions.NoSuchAlias name) = 1
expansion_status expansions.Memory = 4

-- the status for an audit that has no report
abbrev pub report_status : ReportFault → ℕ
report_status (reports.Policy fault) = policy_status fault
report_status (reports.Directory fault) = directory_status fault
report_status (reports.Requests fault) = requests_status fault
report_status reports.Memory = 4
