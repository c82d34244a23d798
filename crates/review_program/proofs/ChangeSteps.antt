-- The contracts of a comparison by requests from those of its parts.
use Rattle.std.proofs.Common.{◌≡◌, ◌<◌, ◌∙◌, ℕ, zero, suc, List, [], ◌∷◌, Option, Some, Result, Ok, Err, ap, arith, get_or, length, refl}
use Rattle.std.proofs.Common.{slice_get, subst, sym}
use Rattle.std.specs.Prelude.{IfErr, IfOk}
use Rattle.audit_collect.specs.declared.arrival.Answer.{Answer}
use Rattle.audit_collect.specs.declared.report.Report.{Report}
use Rattle.audit_collect.specs.declared.report.SenderReport.{SenderReport}
use Rattle.audit_commands.specs.Auditing.{Answers, IsUnreported}
use Rattle.audit_commands.specs.declared.fault.ReportFault.{ReportFault}
use Rattle.audit_commands.specs.declared.fault.ReportFault.TheVariants as reports
use Rattle.audit_files.specs.Feeding.{Ahead}
use Rattle.run_base.specs.declared.run_output.RunOutput.{RunOutput}
use Rattle.sudo_grammar.specs.declared.policy.Policy.{Policy}
use Rattle.sudo_match.specs.KnownRows.{KnownRows}
use Rattle.sudo_verdict.specs.Verdicts.{verdict_of}
use Rattle.review_program.specs.Body.Changing.{AreJudged, HasVerdicts, IsFaultOfPair}
use Rattle.review_commands.specs.Endings.{IsNotedTable}
use Rattle.review_program.specs.Changes.{AreChanges, AreNoChanges, ChangeInputs, change_workers}
use Rattle.review_commands.specs.Pairing.{IsNotPaired, IsPaired}
use Rattle.review_commands.specs.declared.ending.NotedOutput.{NotedOutput}
use Rattle.review_commands.specs.declared.fault.TableFault.{TableFault}
use Rattle.review_commands.specs.declared.fault.TableFault.TheVariants as tables

at-index : {X : Type 0} (xs : List X) (i : ℕ) (x : X) → i < length xs → slice_get xs i ≡ Some (get_or xs i x)
at-index [] i x less = absurd (omega (arith, less))
at-index (y ∷ ys) zero x less = refl
at-index (y ∷ ys) (suc i) x less = at-index ys i x (omega (arith, less))

-- the verdicts of a report of an audit are those of its policy
pub verdicts-of : (old : Policy) (d : KnownRows) (sources : List (List ℕ)) (readable_bytes : List (Option Ahead)) (report : Report) →
    Answers old d sources readable_bytes change_workers (Ok report) → HasVerdicts old d report
verdicts-of old d sources readable_bytes report answers = λ i s less j a there.
    let row = get_or report.senders i s in
    let found = (answers.audited.outcome.2.rows i row (at-index report.senders i s less)).answers j (get_or row.answers j a)
    (at-index row.answers j a there) in
    ap (λ (x : Answer). x.verdict) found.3 ∙ sym (ap (λ (x : Answer). verdict_of old d x.request) found.3)

-- without a pair there are no changes
pub unpaired-of : (given : ChangeInputs) (fault : TableFault) (r : ReportFault) → IsFaultOfPair fault r
    → IsNotPaired given.pair fault → AreNoChanges given r
unpaired-of given (tables.Policy fault) r is not = subst (AreNoChanges given) (sym is) not
unpaired-of given (tables.Directory fault) r is not = subst (AreNoChanges given) (sym is) not
unpaired-of given (tables.NoSuchUser name) r is not = subst (AreNoChanges given) (sym is) tt
unpaired-of given (tables.NoSuchHost name) r is not = subst (AreNoChanges given) (sym is) tt
unpaired-of given tables.Memory r is not = subst (AreNoChanges given) (sym is) tt

module _ (given : ChangeInputs) (old new : Policy) (directory : KnownRows) (notice : List ℕ)
    (paired : IsPaired given.pair old new directory notice) where
  -- a table that was made is printed
  pub changes-of : (table : Result RunOutput ReportFault) (r : Result NotedOutput ReportFault)
      → IfOk table (λ o. AreJudged old new directory given.sources given.readable_bytes o.text.items o.status)
      → IfOk r (λ p. IsNotedTable table notice p)
      → IfOk r (λ p. AreChanges given p.text.items p.notice.items p.status)
  changes-of table (Err fault) made is = tt
  changes-of table (Ok p) made is =
      let own : AreJudged old new directory given.sources given.readable_bytes is.output.text.items is.output.status =
      subst (λ t. IfOk t (λ o. AreJudged old new directory given.sources given.readable_bytes o.text.items o.status)) is.is_output made in
      record {
        old = old;
        new = new;
        directory = directory;
        report = own.report;
        paired = subst (IsPaired given.pair old new directory) (sym is.notice_is) paired;
        answers = own.answers;
        text_is = is.text_is ∙ own.text_is;
        status_is = is.status_is ∙ own.status_is;
      }

  refused : (fault : ReportFault) → IsUnreported old directory given.sources given.readable_bytes 2 fault → AreNoChanges given fault
  refused (reports.Requests named) not = record {
    old = old;
    new = new;
    directory = directory;
    notice = notice;
    paired = paired;
    unreported = not;
  }
  refused reports.Memory not = tt
  refused (reports.Policy fault) not = absurd not
  refused (reports.Directory fault) not = absurd not

  pub no-changes-of : (table : Result RunOutput ReportFault) (r : Result NotedOutput ReportFault)
      → IfErr table (IsUnreported old directory given.sources given.readable_bytes 2) → IfErr r (λ fault. table ≡ Err fault)
      → IfErr r (AreNoChanges given)
  no-changes-of table (Ok p) not is = tt
  no-changes-of table (Err fault) not is =
      refused fault (subst (λ t. IfErr t (IsUnreported old directory given.sources given.readable_bytes 2)) is not)
