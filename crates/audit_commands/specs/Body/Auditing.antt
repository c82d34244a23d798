-- The output of `audit`. Only proofs of bodies use these.
use Rattle.std.specs.Prelude.{◌≡◌, ⊤, ℕ, List, Some, Result, Ok}
use Rattle.audit_collect.specs.declared.report.Report.{Report}
use Rattle.audit_files.specs.Report.{report_text}
use Rattle.audit_run.specs.declared.fault.AuditFault.{AuditFault}
use Rattle.sudo_grammar.specs.declared.policy.Policy.{Policy}
use Rattle.audit_commands.specs.NamedFaults.{fault_named}
use Rattle.audit_commands.specs.declared.fault.ReportFault.{ReportFault}
use Rattle.audit_commands.specs.declared.fault.ReportFault.TheVariants as reports

-- the output for a report under a policy: its text, with status 0
pub record IsPrintedReport (policy : Policy) (answered : Result Report ReportFault) (text : List ℕ) (status : ℕ) : Type 0 where
  pub report : Report
  pub is_report : answered ≡ Ok report
  pub text_is : text ≡ report_text policy.files report
  pub status_is : status ≡ 0

-- the fault of an audit of sources with these names, with the names of senders; or memory failed
abbrev pub IsFaultNamed : List (List ℕ) → AuditFault → ReportFault → Type 0
IsFaultNamed names fault (reports.Requests named) = fault_named names fault ≡ Some named
IsFaultNamed names fault reports.Memory = ⊤
IsFaultNamed names fault (reports.Policy refused) = ⊥
IsFaultNamed names fault (reports.Directory refused) = ⊥
