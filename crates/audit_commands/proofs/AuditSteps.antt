-- The contract of `audit` from those of its parts.
use Rattle.std.proofs.Common.{◌≡◌, ◌≤◌, ◌⊎◌, ℕ, List, Option, Some, Result, Ok, Err, inl, inr, refl, sym, subst, arith}
use Rattle.std.specs.Prelude.{IfErr, IfOk, IsSome}
use Rattle.audit_collect.specs.declared.fault.CollectFault.TheVariants as collects
use Rattle.audit_collect.specs.declared.fault.Refused.TheVariants as refusals
use Rattle.audit_collect.specs.declared.fault.RosterFault.TheVariants as rosters
use Rattle.audit_run.specs.declared.fault.AuditFault.TheVariants as audits
use Rattle.audit_commands.specs.NamedFaults.{fault_named}
use Rattle.audit_collect.specs.declared.report.Report.{Report}
use Rattle.audit_run.specs.Names.{names_under}
use Rattle.audit_run.specs.Passes.{PassView}
use Rattle.audit_run.specs.IsAuditResult.{IsAuditResult, IsResult}
use Rattle.audit_run.specs.declared.fault.AuditFault.{AuditFault}
use Rattle.audit_files.specs.Feeding.{Ahead}
use Rattle.sudo_match.specs.KnownRows.{KnownRows}
use Rattle.sudo_grammar.specs.declared.policy.Policy.{Policy}
use Rattle.run_base.specs.declared.run_output.RunOutput.{RunOutput}
use Rattle.run_base.specs.Loading.{IsChecked}
use Rattle.audit_commands.specs.Auditing.{Answers, Given, IsAnswer, IsAnswerUnder, IsAudited, IsDirectory, IsNoAnswer}
use Rattle.audit_commands.specs.Auditing.{IsNotAudited, IsUnreported}
use Rattle.audit_commands.specs.Body.Auditing.{IsFaultNamed, IsPrintedReport}
use Rattle.audit_commands.specs.declared.fault.ReportFault.{ReportFault}
use Rattle.audit_commands.specs.declared.fault.ReportFault.TheVariants as reports

-- an audit returns no fault that names nothing, but for memory
pub is_named : (policy : Policy) (directory : KnownRows) (sources : List (List ℕ)) (readable_bytes : List (Option Ahead))
    (fault : AuditFault) → (fault ≡ audits.Memory → ⊥) → IsResult (names_under policy directory) sources readable_bytes (Err fault)
    → IsSome (fault_named sources fault)
is_named policy directory sources readable_bytes (audits.Sender name part fault) other h = refl
is_named policy directory sources readable_bytes (audits.Collect (collects.Refused (refusals.Double s n))) other h = refl
is_named policy directory sources readable_bytes (audits.Collect (collects.Refused (refusals.ClosedTwice s))) other h = refl
is_named policy directory sources readable_bytes (audits.Collect (collects.Refused (refusals.PastClose s n))) other h = refl
is_named policy directory sources readable_bytes (audits.Collect (collects.Refused (refusals.Stranger s))) other h = absurd h.outcome.1
is_named policy directory sources readable_bytes (audits.Collect (collects.Refused (refusals.ZeroNumber s))) other h = absurd h.outcome.1
is_named policy directory sources readable_bytes (audits.Collect (collects.Refused refusals.Memory)) other h = absurd h.outcome.1
is_named policy directory sources readable_bytes (audits.Collect (collects.Unfinished lack)) other h = refl
is_named policy directory sources readable_bytes (audits.Collect (collects.Roster rosters.TooManySenders)) other h = refl
is_named policy directory sources readable_bytes (audits.Collect (collects.Roster (rosters.SenderTwice n))) other h = absurd h.outcome
is_named policy directory sources readable_bytes (audits.Collect (collects.Roster rosters.Memory)) other h = absurd h.outcome
is_named policy directory sources readable_bytes audits.NoThread other h = refl
is_named policy directory sources readable_bytes audits.TooManyParts other h = refl
is_named policy directory sources readable_bytes audits.Memory other h = absurd (other refl)

-- the same of names that are those of the sources
pub named_if_other : (policy : Policy) (directory : KnownRows) (names sources : List (List ℕ))
    (readable_bytes : List (Option Ahead)) (workers : ℕ) (fault : AuditFault) → names ≡ sources
    → Answers policy directory sources readable_bytes workers (Err fault)
    → (fault ≡ audits.Memory → ⊥) → IsSome (fault_named names fault)
named_if_other policy directory names sources readable_bytes workers fault same h other =
    subst (λ (ns : List (List ℕ)). IsSome (fault_named ns fault)) (sym same)
    (is_named policy directory sources readable_bytes fault other h.audited)

pub unreported_is : (policy : Policy) (directory : KnownRows) (names sources : List (List ℕ))
    (readable_bytes : List (Option Ahead)) (workers : ℕ) (fault : AuditFault) (r : ReportFault) → names ≡ sources
    → Answers policy directory sources readable_bytes workers (Err fault)
    → IsFaultNamed names fault r → IsUnreported policy directory sources readable_bytes workers r
unreported_is policy directory names sources readable_bytes workers fault (reports.Requests named) same h is =
    (fault, h, subst (λ (ns : List (List ℕ)). fault_named ns fault ≡ Some named) same is)
unreported_is policy directory names sources readable_bytes workers fault reports.Memory same h is = tt
unreported_is policy directory names sources readable_bytes workers fault (reports.Policy refused) same h is = absurd is
unreported_is policy directory names sources readable_bytes workers fault (reports.Directory refused) same h is = absurd is

-- an audit under the directory that the files state is one under what they state
pub reported_of : (policy : Policy) (users hosts : Option Ahead) (sources : List (List ℕ)) (readable_bytes : List (Option Ahead))
    (workers : ℕ) (directory : KnownRows) (r : Result Report ReportFault) → IsDirectory users hosts directory
    → IfOk r (λ report. Answers policy directory sources readable_bytes workers (Ok report))
    → IfOk r (λ report. IsAnswerUnder policy users hosts sources readable_bytes workers (Ok report))
reported_of policy users hosts sources readable_bytes workers directory (Ok report) known h =
    record { directory = directory; is_directory = known; answers = h }
reported_of policy users hosts sources readable_bytes workers directory (Err fault) known h = tt

no_report : (policy : Policy) (users hosts : Option Ahead) (sources : List (List ℕ)) (readable_bytes : List (Option Ahead))
    (workers : ℕ) (directory : KnownRows) (fault : ReportFault) → IsDirectory users hosts directory
    → IsUnreported policy directory sources readable_bytes workers fault
    → IsNoAnswer policy users hosts sources readable_bytes workers fault
no_report policy users hosts sources readable_bytes workers directory (reports.Requests named) known h =
    (h.0, record { directory = directory; is_directory = known; answers = h.1 }, h.2)
no_report policy users hosts sources readable_bytes workers directory reports.Memory known h = tt
no_report policy users hosts sources readable_bytes workers directory (reports.Policy fault) known h = absurd h
no_report policy users hosts sources readable_bytes workers directory (reports.Directory fault) known h = absurd h

pub unreported_of : (policy : Policy) (users hosts : Option Ahead) (sources : List (List ℕ)) (readable_bytes : List (Option Ahead))
    (workers : ℕ) (directory : KnownRows) (r : Result Report ReportFault) → IsDirectory users hosts directory
    → IfErr r (IsUnreported policy directory sources readable_bytes workers)
    → IfErr r (IsNoAnswer policy users hosts sources readable_bytes workers)
unreported_of policy users hosts sources readable_bytes workers directory (Ok report) known h = tt
unreported_of policy users hosts sources readable_bytes workers directory (Err fault) known h =
    no_report policy users hosts sources readable_bytes workers directory fault known h

-- an audit under a policy of the files, which passes the check, is one of the input
pub answer_of : (given : Given) (policy : Policy) (r : Result Report ReportFault) → IsChecked given.held given.path policy
    → IfOk r (λ report. IsAnswerUnder policy given.users given.hosts given.sources given.readable_bytes given.workers (Ok report))
    → IfOk r (λ report. IsAnswer given policy (Ok report))
answer_of given policy (Ok report) is h =
    record { is_policy = is; directory = h.directory; is_directory = h.is_directory; answers = h.answers.audited }
answer_of given policy (Err fault) is h = tt

not_audited : (given : Given) (policy : Policy) (fault : ReportFault) → IsChecked given.held given.path policy
    → IsNoAnswer policy given.users given.hosts given.sources given.readable_bytes given.workers fault → IsNotAudited given fault
not_audited given policy (reports.Requests named) is h =
    let under = h.1 in
    let answer : IsAnswer given policy (Err h.0) =
    record { is_policy = is; directory = under.directory; is_directory = under.is_directory; answers = under.answers.audited } in
    (policy, h.0, answer, h.2)
not_audited given policy (reports.Directory fault) is h = (h.0, (policy, is), h.1)
not_audited given policy reports.Memory is h = tt
not_audited given policy (reports.Policy fault) is h = absurd h

pub no_answer_of : (given : Given) (policy : Policy) (r : Result Report ReportFault) → IsChecked given.held given.path policy
    → IfErr r (IsNoAnswer policy given.users given.hosts given.sources given.readable_bytes given.workers)
    → IfErr r (IsNotAudited given)
no_answer_of given policy (Ok report) is h = tt
no_answer_of given policy (Err fault) is h = not_audited given policy fault is h

pub answered : (policy : Policy) (directory : KnownRows) (sources : List (List ℕ))
    (readable_bytes : List (Option Ahead)) (workers : ℕ) (before after : PassView) (result : Result Report AuditFault)
    → IsAuditResult (names_under policy directory) sources readable_bytes workers before after result
    → Answers policy directory sources readable_bytes workers result
answered policy directory sources readable_bytes workers before after result h =
    record { before = before; after = after; audited = h.0; leaves = h.1 }

-- the text of a report is the output of an audit whose answer it is
pub printed_of : (given : Given) (policy : Policy) (answered : Result Report ReportFault) (r : Result RunOutput ReportFault)
    → IfOk answered (λ report. IsAnswer given policy (Ok report))
    → IfOk r (λ p. IsPrintedReport policy answered p.text.items p.status) → IfOk r (λ p. IsAudited given p.text.items p.status)
printed_of given policy answered (Ok p) answer h = record {
  policy = policy;
  report = h.report;
  answer = subst (λ a. IfOk a (λ report. IsAnswer given policy (Ok report))) h.is_report answer;
  text_is = h.text_is;
  status_is = h.status_is;
}
printed_of given policy answered (Err fault) answer h = tt

-- the fault of an audit, or that of memory, is one of the whole
pub not_printed_of : (given : Given) (answered : Result Report ReportFault) (r : Result RunOutput ReportFault)
    → IfErr answered (IsNotAudited given) → IfErr r (λ fault. (fault ≡ reports.Memory) ⊎ (answered ≡ Err fault))
    → IfErr r (IsNotAudited given)
not_printed_of given answered (Ok p) not h = tt
not_printed_of given answered (Err fault) not h = elim h [
  | inl memory ↦ subst (IsNotAudited given) (sym memory) tt
  | inr same ↦ subst (λ a. IfErr a (IsNotAudited given)) same not
]

pub audited_most : (given : Given) (text : List ℕ) (status : ℕ) → IsAudited given text status → status ≤ 4
audited_most given text status x =
    let zero = x.status_is in
    omega (arith, zero)
