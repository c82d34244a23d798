-- The requests to which a pair of policies answers differently. Only proofs of bodies use these.
use Rattle.std.specs.Prelude.{◌≡◌, ℕ, All, List, Option, Ok}
use Rattle.audit_collect.specs.declared.arrival.Answer.{Answer}
use Rattle.audit_collect.specs.declared.report.Report.{Report}
use Rattle.audit_collect.specs.declared.report.SenderReport.{SenderReport}
use Rattle.audit_commands.specs.Auditing.{Answers}
use Rattle.audit_files.specs.Feeding.{Ahead}
use Rattle.sudo_grammar.specs.declared.policy.Policy.{Policy}
use Rattle.sudo_match.specs.KnownRows.{KnownRows}
use Rattle.sudo_verdict.specs.Verdicts.{verdict_of}
use Rattle.review_program.specs.Changes.{change_workers, changes_status, changes_text}
use Rattle.audit_commands.specs.declared.fault.ReportFault.{ReportFault}
use Rattle.audit_commands.specs.declared.fault.ReportFault.TheVariants as reports
use Rattle.review_commands.specs.declared.fault.TableFault.{TableFault}
use Rattle.review_commands.specs.declared.fault.TableFault.TheVariants as tables

-- the table of the requests of these sources, and its status
pub record AreJudged (old new : Policy) (d : KnownRows) (sources : List (List ℕ)) (readable_bytes : List (Option Ahead))
    (text : List ℕ) (status : ℕ) : Type 0 where
  pub report : Report
  pub answers : Answers old d sources readable_bytes change_workers (Ok report)
  pub text_is : text ≡ changes_text old new d report
  pub status_is : status ≡ changes_status old new d report

-- the verdicts of a report are those of a policy
abbrev pub HaveVerdict : Policy → KnownRows → List Answer → Type 0
HaveVerdict old d answers = All (λ (a : Answer). a.verdict ≡ verdict_of old d a.request) answers

abbrev pub HasVerdicts : Policy → KnownRows → Report → Type 0
HasVerdicts old d r = All (λ (s : SenderReport). HaveVerdict old d s.answers) r.senders

-- the fault of an audit for that of a pair of policies
abbrev pub IsFaultOfPair : TableFault → ReportFault → Type 0
IsFaultOfPair (tables.Policy fault) result = result ≡ reports.Policy fault
IsFaultOfPair (tables.Directory fault) result = result ≡ reports.Directory fault
IsFaultOfPair (tables.NoSuchUser name) result = result ≡ reports.Memory
IsFaultOfPair (tables.NoSuchHost name) result = result ≡ reports.Memory
IsFaultOfPair tables.Memory result = result ≡ reports.Memory
