-- The contract of `report` from those of its parts.
use Rattle.std.proofs.Common.{◌≡◌, ◌⊎◌, ℕ, List, Result, Ok, Err, inl, inr, sym, subst, ◌∙◌}
use Rattle.std.specs.Prelude.{IfErr, IfOk}
use Rattle.audit_collect.specs.declared.report.Report.{Report}
use Rattle.audit_commands.specs.Auditing.{Given, IsAnswer, IsNotAudited}
use Rattle.audit_commands.specs.declared.fault.ReportFault.{ReportFault}
use Rattle.audit_commands.specs.declared.fault.ReportFault.TheVariants as reports
use Rattle.run_base.specs.Holding.{Holdings}
use Rattle.run_base.specs.Loading.{IsChecked, IsLoadedFrom}
use Rattle.sudo_grammar.specs.declared.policy.Policy.{Policy}
use Rattle.sudo_load.specs.declared.supply.Supply.{Supply}
use Rattle.sudo_policy.specs.Checking.{Passes}
use Rattle.review_commands.specs.Body.Reviewing.{IsNoticeOn, IsPrintedReview}
use Rattle.review_commands.specs.FileTexts.{texts_of}
use Rattle.review_commands.specs.Reviewing.{IsReviewed}
use Rattle.review_commands.specs.declared.report.Form.{Form}
use Rattle.review_commands.specs.declared.ending.NotedOutput.{NotedOutput}

pub checked_of : (held : Holdings) (path main : List ℕ) (handed : List Supply) (policy : Policy)
    → IsLoadedFrom held path main handed policy → Passes policy → IsChecked held path policy
checked_of held path main handed policy loaded passes = record { loaded = (main, handed, loaded); passes = passes }

-- the text of a report and its notice are the output
pub reviewed_of : (given : Given) (form : Form) (main : List ℕ) (handed : List Supply) (policy : Policy) (answered : Result Report
    ReportFault)
    (notice : List ℕ) (r : Result NotedOutput ReportFault)
    → IsLoadedFrom given.held given.path main handed policy
    → IsNoticeOn (texts_of main handed policy.files) policy notice
    → IfOk answered (λ report. IsAnswer given policy (Ok report))
    → IfOk r (λ p. IsPrintedReview policy form answered p.text.items)
    → IfOk r (λ p. (p.notice.items ≡ notice) × (p.status ≡ 0))
    → IfOk r (λ p. IsReviewed given form p.text.items p.notice.items p.status)
reviewed_of given form main handed policy answered notice (Ok p) loaded is answer h same = record {
  policy = policy;
  report = h.report;
  found = is.found;
  answer = subst (λ a. IfOk a (λ report. IsAnswer given policy (Ok report))) h.is_report answer;
  are = record { main = main; handed = handed; loaded = loaded; found_are = is.are };
  text_is = h.text_is;
  notice_is = same.0 ∙ is.line_is;
  status_is = same.1;
}
reviewed_of given form main handed policy answered notice (Err fault) loaded is answer h same = tt

-- the fault of an audit, or that of memory, is one of the whole
pub not_reviewed_of : (given : Given) (answered : Result Report ReportFault) (r : Result NotedOutput ReportFault)
    → IfErr answered (IsNotAudited given) → IfErr r (λ fault. (fault ≡ reports.Memory) ⊎ (answered ≡ Err fault))
    → IfErr r (IsNotAudited given)
not_reviewed_of given answered (Ok p) not h = tt
not_reviewed_of given answered (Err fault) not h = elim h [
  | inl memory ↦ subst (IsNotAudited given) (sym memory) tt
  | inr same ↦ subst (λ a. IfErr a (IsNotAudited given)) same not
]
