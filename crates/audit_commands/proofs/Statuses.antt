-- The status of a fault is 1 to 4.
use Rattle.std.proofs.Common.{◌≡◌, ℕ, ◌<◌, ◌≤◌, lit<, arith}
use Rattle.audit_files.specs.declared.fault.FileFault.{FileFault}
use Rattle.audit_files.specs.declared.fault.FileFault.TheVariants as file_faults
use Rattle.sudo_match.specs.declared.fault.DirFault.{DirFault}
use Rattle.sudo_match.specs.declared.fault.DirFault.TheVariants as directories
use Rattle.run_base.specs.Faults.{policy_status}
use Rattle.run_base.specs.declared.fault.PolicyFault.{PolicyFault}
use Rattle.run_base.specs.declared.fault.PolicyFault.TheVariants as policies
use Rattle.audit_commands.specs.declared.fault.DirectoryFault.{DirectoryFault}
use Rattle.audit_commands.specs.declared.fault.DirectoryFault.TheVariants as directory_faults
use Rattle.audit_commands.specs.declared.fault.ExpansionFault.{ExpansionFault}
use Rattle.audit_commands.specs.declared.fault.ExpansionFault.TheVariants as expansions
use Rattle.audit_commands.specs.declared.fault.ReportFault.{ReportFault}
use Rattle.audit_commands.specs.declared.fault.ReportFault.TheVariants as reports
use Rattle.audit_commands.specs.declared.requests_fault.RequestsFault.{RequestsFault}
use Rattle.audit_commands.specs.declared.requests_fault.RequestsFault.TheVariants as requests
use Rattle.audit_commands.specs.Faults.{both_status, directory_status, expansion_status, file_status, report_status, requests_status}

abbrev IsStatus : ℕ → Type 0
IsStatus status = (0 < status) × (status < 5)

file_range : (fault : FileFault) → IsStatus (file_status fault)
file_range file_faults.Read = (lit< tt, lit< tt)
file_range file_faults.Memory = (lit< tt, lit< tt)
file_range file_faults.Header = (lit< tt, lit< tt)
file_range (file_faults.BadRow row) = (lit< tt, lit< tt)
file_range (file_faults.OutOfOrder row) = (lit< tt, lit< tt)
file_range (file_faults.RowAfterClose row) = (lit< tt, lit< tt)
file_range file_faults.TooMany = (lit< tt, lit< tt)

both_range : (fault : DirFault) → IsStatus (both_status fault)
both_range (directories.UserTwice name) = (lit< tt, lit< tt)
both_range (directories.HostTwice name) = (lit< tt, lit< tt)
both_range (directories.GroupClash name) = (lit< tt, lit< tt)
both_range (directories.NoGroup user) = (lit< tt, lit< tt)
both_range directories.NoRoot = (lit< tt, lit< tt)
both_range directories.Memory = (lit< tt, lit< tt)

directory_range : (fault : DirectoryFault) → IsStatus (directory_status fault)
directory_range (directory_faults.Users fault) = file_range fault
directory_range (directory_faults.Hosts fault) = file_range fault
directory_range (directory_faults.Both fault) = both_range fault
directory_range directory_faults.Memory = (lit< tt, lit< tt)

requests_range : (fault : RequestsFault) → IsStatus (requests_status fault)
requests_range (requests.File sender part fault) = file_range fault
requests_range (requests.Twice sender number) = (lit< tt, lit< tt)
requests_range (requests.ClosedTwice sender) = (lit< tt, lit< tt)
requests_range (requests.PastClose sender number) = (lit< tt, lit< tt)
requests_range (requests.NotClosed sender) = (lit< tt, lit< tt)
requests_range (requests.Missing sender number) = (lit< tt, lit< tt)
requests_range requests.TooManySenders = (lit< tt, lit< tt)
requests_range requests.TooManyParts = (lit< tt, lit< tt)
requests_range requests.NoThread = (lit< tt, lit< tt)

policy_range : (fault : PolicyFault) → IsStatus (policy_status fault)
policy_range (policies.Refused read fault text) = (lit< tt, lit< tt)
policy_range (policies.Errors lines) = (lit< tt, lit< tt)
policy_range (policies.TooLong path) = (lit< tt, lit< tt)
policy_range policies.TooManyFiles = (lit< tt, lit< tt)
policy_range (policies.CannotRead path why) = (lit< tt, lit< tt)
policy_range policies.Memory = (lit< tt, lit< tt)

expansion_range : (fault : ExpansionFault) → IsStatus (expansion_status fault)
expansion_range (expansions.Policy fault) = policy_range fault
expansion_range (expansions.NoSuchAlias name) = (lit< tt, lit< tt)
expansion_range expansions.Memory = (lit< tt, lit< tt)

report_range : (fault : ReportFault) → IsStatus (report_status fault)
report_range (reports.Policy fault) = policy_range fault
report_range (reports.Directory fault) = directory_range fault
report_range (reports.Requests fault) = requests_range fault
report_range reports.Memory = (lit< tt, lit< tt)

pub policy_low : (fault : PolicyFault) → policy_status fault ≡ 0 → ⊥
policy_low fault none =
    let low = (policy_range fault).0 in
    omega (arith, low, none)

pub policy_most : (fault : PolicyFault) → policy_status fault ≤ 4
policy_most fault =
    let high = (policy_range fault).1 in
    omega (arith, high)

pub expansion_most : (fault : ExpansionFault) → expansion_status fault ≤ 4
expansion_most fault =
    let high = (expansion_range fault).1 in
    omega (arith, high)

pub report_most : (fault : ReportFault) → report_status fault ≤ 4
report_most fault =
    let high = (report_range fault).1 in
    omega (arith, high)
