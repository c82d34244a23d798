-- The text that the program prints for a fault.
use Rattle.std.specs.Prelude.{ℕ, List, ◌++◌, codes}
use Rattle.run_base.specs.Endings.{Notices, notices}
use Rattle.run_base.specs.FaultLines.{error_line, memory_line, open_explained, open_printed, policy_explained, policy_printed}
use Rattle.run_base.specs.Faults.{policy_status}
use Rattle.run_base.specs.declared.fault.PolicyFault.{PolicyFault}
use Rattle.audit_commands.specs.FaultTexts.{directory_fault_text, file_fault_text, requests_fault_text}
use Rattle.audit_commands.specs.Faults.{expansion_status, report_status}
use Rattle.audit_commands.specs.declared.fault.DirectoryFault.{DirectoryFault}
use Rattle.audit_commands.specs.declared.fault.DirectoryFault.TheVariants as directories
use Rattle.audit_commands.specs.declared.fault.ExpansionFault.{ExpansionFault}
use Rattle.audit_commands.specs.declared.fault.ExpansionFault.TheVariants as expansions
use Rattle.audit_commands.specs.declared.fault.ReportFault.{ReportFault}
use Rattle.audit_commands.specs.declared.fault.ReportFault.TheVariants as reports
use Rattle.audit_commands.specs.declared.fault.SourcesFault.{SourcesFault}
use Rattle.audit_commands.specs.declared.fault.SourcesFault.TheVariants as sources

abbrev pub directory_printed : List ℕ → DirectoryFault → List ℕ
directory_printed program (directories.Users fault) = error_line program (codes "users: " ++ file_fault_text fault)
directory_printed program (directories.Hosts fault) = error_line program (codes "hosts: " ++ file_fault_text fault)
directory_printed program (directories.Both fault) = error_line program (directory_fault_text fault)
directory_printed program directories.Memory = memory_line program

abbrev pub sources_printed : List ℕ → SourcesFault → List ℕ
sources_printed program (sources.BadSender word) = error_line program (codes "bad sender " ++ word)
sources_printed program (sources.Unopened fault) = open_printed program fault

abbrev pub expansion_printed : List ℕ → ExpansionFault → List ℕ
expansion_printed program (expansions.Policy fault) = policy_printed program fault
expansion_printed program (expansions.NoSuchAlias name) = error_line program (codes "no such alias " ++ name)
expansion_printed program expansions.Memory = memory_line program

abbrev pub report_printed : List ℕ → ReportFault → List ℕ
report_printed program (reports.Policy fault) = policy_printed program fault
report_printed program (reports.Directory fault) = directory_printed program fault
report_printed program (reports.Requests fault) = error_line program (requests_fault_text fault)
report_printed program reports.Memory = memory_line program

-- the same texts as a program prints them that says why a path cannot be read

abbrev pub sources_explained : List ℕ → SourcesFault → List ℕ
sources_explained program (sources.BadSender word) = sources_printed program (sources.BadSender word)
sources_explained program (sources.Unopened fault) = open_explained program fault

abbrev pub expansion_explained : List ℕ → ExpansionFault → List ℕ
expansion_explained program (expansions.Policy fault) = policy_explained program fault
expansion_explained program (expansions.NoSuchAlias name) = expansion_printed program (expansions.NoSuchAlias name)
expansion_explained program expansions.Memory = expansion_printed program expansions.Memory

abbrev pub report_explained : List ℕ → ReportFault → List ℕ
report_explained program (reports.Policy fault) = policy_explained program fault
report_explained program (reports.Directory fault) = directory_printed program fault
report_explained program (reports.Requests fault) = report_printed program (reports.Requests fault)
report_explained program reports.Memory = report_printed program reports.Memory

-- the name of the program
abbrev pub program_name : List ℕ
program_name = codes "sudo_audit"

-- what each command prints for its faults
abbrev pub check_notices : Notices PolicyFault
check_notices = notices policy_status policy_printed program_name

abbrev pub expand_notices : Notices ExpansionFault
expand_notices = notices expansion_status expansion_printed program_name

abbrev pub audit_notices : Notices ReportFault
audit_notices = notices report_status report_printed program_name
