-- A result that an audit may return is one that an audit by any number of workers may return.
use Rattle.std.proofs.Common.{◌≡◌, ℕ, List, [], ◌∷◌, ◌++◌, length, map, flat_map, Option, Result, Ok, Err, IsPermutation}
use Rattle.std.proofs.Common.{append-nil, sym, ap, subst, refl}
use Rattle.std.specs.List.{AllZip}
use Rattle.std.proofs.lemmas.List.Sorted.{IsPermutation-append, IsPermutation-refl}
use Rattle.audit_collect.specs.Complete.{IsReportOf}
use Rattle.audit_collect.specs.Finished.{report_of}
use Rattle.audit_collect.specs.SenderState.{SenderState, after, start}
use Rattle.audit_collect.specs.declared.fault.CollectFault.TheVariants as collect
use Rattle.audit_collect.specs.declared.fault.Refused.{Refused}
use Rattle.audit_collect.specs.declared.fault.RosterFault.TheVariants as roster_fault
use Rattle.audit_collect.specs.declared.report.Report.{Report}
use Rattle.audit_collect.proofs.CompleteLaw.{finished_report}
use Rattle.audit_files.specs.Feeding.{Ahead}
use Rattle.audit_run.specs.Arrivals.{arrivals_of}
use Rattle.audit_run.specs.IsAuditResult.{HasGained, IsAuditResult, IsOutcome, IsReportOfArrived, IsResult, IsRunResult}
use Rattle.audit_run.specs.Names.{answer}
use Rattle.audit_run.specs.Outcome.{AreWhole, IsReport}
use Rattle.audit_run.specs.Parts.{AreRead, HasPut, HavePut, Stated, jobs_or_end, parts_by_owner, put_by_sources, run_jobs}
use Rattle.audit_run.specs.Passes.{IsEmpty, IsOnlyPass, PassView}
use Rattle.audit_run.specs.Roster.{roster}
use Rattle.audit_run.specs.declared.fault.AuditFault.{AuditFault}
use Rattle.audit_run.specs.declared.fault.AuditFault.TheVariants.{Sender, Collect, NoThread, Memory, TooManyParts}
use Rattle.audit_run.specs.declared.message.Job.{Job}
use Rattle.audit_run.specs.declared.message.Names.{Names}
use Rattle.audit_run.specs.declared.message.Outcome.{Outcome}
use Rattle.audit_run.proofs.HeldRequests.{finished_all}
use Rattle.audit_run.proofs.Refusals.{refused_of_sources}
use Rattle.audit_run.proofs.RunReports.{reported}
use Rattle.audit_run.proofs.SourceContent.{all_owned, all_rise}
use Rattle.audit_run.proofs.WholeSources.{one_report, whole_not_refused}

-- each source puts its jobs, and a refused one its end alone
abbrev jobs_by_source : List (ℕ × Stated) → List (List Job)
jobs_by_source parts = map (λ (part : ℕ × Stated). jobs_or_end part.0 part.1) parts

put_each : (parts : List (ℕ × Stated)) → AllZip (λ part jobs. HasPut part.0 part.1 jobs) parts (jobs_by_source parts)
put_each [] = tt
put_each ((owner, Ok requests) ∷ parts) = (refl, put_each parts)
put_each ((owner, Err fault) ∷ parts) = (([], refl), put_each parts)

put_all : (parts : List (ℕ × Stated)) → put_by_sources parts ≡ flat_map (λ jobs. jobs) (jobs_by_source parts)
put_all [] = refl
put_all (part ∷ parts) = ap (λ l. jobs_or_end part.0 part.1 ++ l) (put_all parts)

have_put : (parts : List (ℕ × Stated)) → HavePut parts (put_by_sources parts)
have_put parts = record { by_source = jobs_by_source parts; each = put_each parts; all = put_all parts }

-- the pass after these outcomes were put and taken
abbrev answering : PassView → List Outcome → PassView
answering p outcomes = record p { outcomes_put = p.outcomes_put ++ outcomes; outcomes_taken = p.outcomes_taken ++ outcomes }

nothing_left : (p : PassView) (outcomes : List Outcome) → IsEmpty p → IsEmpty (answering p outcomes)
nothing_left p outcomes empty =
    let before : IsPermutation p.outcomes_put p.outcomes_taken =
    subst (λ (l : List Outcome). IsPermutation p.outcomes_put l) (append-nil p.outcomes_taken) empty.1.0 in
    let now = IsPermutation-append p.outcomes_put p.outcomes_taken outcomes outcomes before (IsPermutation-refl outcomes) in
    let none = subst (λ (l : List Outcome). IsPermutation (p.outcomes_put ++ outcomes) l)
    (sym (append-nil (p.outcomes_taken ++ outcomes))) now in
    (empty.0, (none, empty.1.1))

module _ (names : Names) (sources : List (List ℕ)) (readable_bytes : List (Option Ahead)) (states : List Stated)
    (workers : ℕ) (read : AreRead readable_bytes states) where
  abbrev parts : List (ℕ × Stated)
  parts = parts_by_owner sources states

  -- the answers to all jobs, one after the other
  abbrev outcomes : List Outcome
  outcomes = map (answer names) (run_jobs workers parts)

  all : IsPermutation (map (answer names) (run_jobs workers parts)) outcomes
  all = IsPermutation-refl outcomes

  -- a collector accepts the answers to whole sources
  accepted : AreWhole (length (roster sources)) parts → (r : Result (List SenderState) Refused)
      → after (start (roster sources)) (arrivals_of outcomes) ≡ r
      → (held : List SenderState) × (after (start (roster sources)) (arrivals_of outcomes) ≡ Ok held)
  accepted whole (Ok held) is = (held, is)
  accepted whole (Err why) is =
      absurd (whole_not_refused (length (roster sources)) parts why (all_owned sources states) whole
      (refused_of_sources names (roster sources) workers parts outcomes (all_rise sources readable_bytes states read)
      (all_owned sources states) all why is))

  -- and makes their report of them
  complete : (report : Report) → AreWhole (length (roster sources)) parts → IsReport names (roster sources) parts report
      → IsReportOf (roster sources) (arrivals_of outcomes) report
  complete report whole is =
      let (held, ran) = accepted whole (after (start (roster sources)) (arrivals_of outcomes)) refl in
      let finished = finished_all names (roster sources) workers parts outcomes all held ran whole in
      let made = reported names (roster sources) workers parts outcomes all held ran finished in
      subst (IsReportOf (roster sources) (arrivals_of outcomes))
      (one_report names (roster sources) parts whole (report_of held) report made is)
      (finished_report (roster sources) (arrivals_of outcomes) held ran finished)

  arrived : (result : Result Report AuditFault) → IsOutcome names sources states result → IsReportOfArrived sources outcomes result
  arrived (Ok report) (sound, whole, is) = complete report whole is
  arrived (Err fault) is = tt

  gained : (old : PassView) → IsOnlyPass old → IsEmpty old → (result : Result Report AuditFault)
      → IsOutcome names sources states result → HasGained names sources states workers old (answering old outcomes) result
  gained old only empty result is = record {
    put = put_by_sources parts;
    have_put = have_put parts;
    outcomes = outcomes;
    gained = refl;
    all = all;
    arrived = arrived result is;
    whole = only;
    same_handoff = refl;
    same_names = refl;
    empty = nothing_left old outcomes empty;
  }

module _ (names : Names) (sources : List (List ℕ)) (readable_bytes : List (Option Ahead)) (workers : ℕ) (old : PassView)
    (only : IsOnlyPass old) (empty : IsEmpty old) where
  -- the pass after an audit with this result
  abbrev After : Result Report AuditFault → Type 0
  After result = (new : PassView) × IsAuditResult names sources readable_bytes workers old new result

  abbrev new_of : (result : Result Report AuditFault) → IsRunResult names sources readable_bytes result → PassView
  new_of result is = answering old (outcomes names sources readable_bytes is.states workers is.read)

  ran : (result : Result Report AuditFault) (is : IsRunResult names sources readable_bytes result)
      → HasGained names sources is.states workers old (new_of result is) result
  ran result is = gained names sources readable_bytes is.states workers is.read old only empty result is.outcome

  pub of_any_workers : (result : Result Report AuditFault) → IsResult names sources readable_bytes result → After result
  of_any_workers (Ok report) is = (new_of (Ok report) is, (is, ran (Ok report) is))
  of_any_workers (Err (Sender name part fault)) is =
      (new_of (Err (Sender name part fault)) is, (is, ran (Err (Sender name part fault)) is))
  of_any_workers (Err (Collect (collect.Roster roster_fault.Memory))) is = absurd is.outcome
  of_any_workers (Err (Collect (collect.Roster (roster_fault.SenderTwice name)))) is = absurd is.outcome
  of_any_workers (Err (Collect (collect.Roster roster_fault.TooManySenders))) is = (old, (is, refl))
  of_any_workers (Err (Collect (collect.Refused why))) is =
      (new_of (Err (Collect (collect.Refused why))) is, (is, ran (Err (Collect (collect.Refused why))) is))
  of_any_workers (Err (Collect (collect.Unfinished what))) is =
      (new_of (Err (Collect (collect.Unfinished what))) is, (is, ran (Err (Collect (collect.Unfinished what))) is))
  of_any_workers (Err NoThread) is = (old, (is, tt))
  of_any_workers (Err Memory) is = (old, (is, tt))
  of_any_workers (Err TooManyParts) is = (old, (is, refl))
