-- The outcome of two lists of sources that have no name in common.
use Rattle.std.proofs.Common.{◌≡◌, ℕ, zero, suc, ◌+◌, List, [], ◌∷◌, ◌++◌, length, map, Ok, Err, All, sym, ap, subst}
use Rattle.std.proofs.Common.{◌∙◌, refl, inl, inr, arith}
use Rattle.std.proofs.lemmas.List.{length-append, length-map, map-append}
use Rattle.audit_collect.specs.declared.fault.CollectFault.TheVariants as collect
use Rattle.audit_collect.specs.declared.fault.Refused.{Refused}
use Rattle.audit_collect.specs.declared.fault.Unfinished.{Unfinished}
use Rattle.audit_collect.specs.declared.report.Report.{Report}
use Rattle.audit_files.specs.declared.fault.FileFault.{FileFault}
use Rattle.audit_run.specs.declared.fault.AuditFault.{AuditFault}
use Rattle.audit_run.specs.declared.fault.AuditFault.TheVariants.{Sender, Collect, NoThread, Memory, TooManyParts}
use Rattle.audit_run.specs.declared.message.Names.{Names}
use Rattle.audit_run.specs.IsAuditResult.{IsOutcome, IsRefusedSource, NoneRefused}
use Rattle.audit_run.specs.Outcome.{AreWhole, HaveRefused, IsReport, Lack}
use Rattle.audit_run.specs.Parts.{Stated, fault_in, faults_of, parts_by_owner}
use Rattle.audit_run.specs.Roster.{roster}
use Rattle.audit_run.specs.Shards.{AreShards, IsJoined, IsOfEither, fault_after, joined_report, refused_after, unfinished_after}
use Rattle.audit_run.proofs.Apart.{Parted, owned_joined, parted, roster-joined}
use Rattle.audit_run.proofs.Beside.{both, whole_first, whole_joined, whole_second}
use Rattle.audit_run.proofs.WholeSources.{one_report}
use Rattle.audit_run.proofs.JoinedFaults.{lack_either, lack_first, lack_second, none_first, none_joined, none_second}
use Rattle.audit_run.proofs.JoinedFaults.{refused_either, refused_first, refused_second}
use Rattle.audit_run.proofs.JoinedReports.{report_first, report_joined, report_second, row_before}
use Rattle.audit_run.proofs.JoinedSources.{source_either, source_first, source_second}
use Rattle.audit_run.proofs.SourceContent.{all_owned}
use Rattle.audit_run.proofs.Refusals.{IsOwned}

-- a list in two pieces
record InTwo {X : Type 0} (n : ℕ) (xs : List X) : Type 0 where
  pub front : List X
  pub rest : List X
  pub is : xs ≡ front ++ rest
  pub long : length front ≡ n

in_two : {X : Type 0} (n m : ℕ) (xs : List X) → length xs ≡ n + m → InTwo n xs
in_two zero m xs long = record { front = []; rest = xs; is = refl; long = refl }
in_two (suc n) m [] long = absurd (omega (arith, long))
in_two (suc n) m (x ∷ xs) long =
    let more = in_two n m xs (omega (arith, long)) in
    record { front = x ∷ more.front; rest = more.rest; is = ap (λ l. x ∷ l) more.is; long = ap suc more.long }

module _ (names : Names) (first second : List (List ℕ)) (states more : List Stated) (shards : AreShards first second states) where
  apart : Parted first second
  apart = parted first second shards.apart

  -- the sources of both, by the list that each is of
  abbrev parts : List (ℕ × Stated)
  parts = both (length (roster first)) (parts_by_owner first states) (parts_by_owner second more)

  sources : parts_by_owner (first ++ second) (states ++ more) ≡ parts
  sources = owned_joined first second states more apart shards.stated

  rosters : roster (first ++ second) ≡ roster first ++ roster second
  rosters = roster-joined first second apart

  counted : length (roster (first ++ second)) ≡ length (roster first) + length (roster second)
  counted = ap length rosters ∙ length-append (roster first) (roster second)

  faults : faults_of (states ++ more) ≡ faults_of states ++ faults_of more
  faults = map-append fault_in states more

  long : length (faults_of states) ≡ length first
  long = length-map states fault_in ∙ shards.stated

  own : All (IsOwned (length (roster first))) (parts_by_owner first states)
  own = all_owned first states

  none : NoneRefused (faults_of states) → NoneRefused (faults_of more) → NoneRefused (faults_of (states ++ more))
  none one other = subst NoneRefused (sym faults) (none_joined (faults_of states) (faults_of more) one other)

  none_of_first : NoneRefused (faults_of (states ++ more)) → NoneRefused (faults_of states)
  none_of_first all = none_first (faults_of states) (faults_of more) (subst NoneRefused faults all)

  none_of_second : NoneRefused (faults_of (states ++ more)) → NoneRefused (faults_of more)
  none_of_second all = none_second (faults_of states) (faults_of more) (subst NoneRefused faults all)

  -- the words of an outcome, between the sources as both have them and by the list that each is of
  whole_of_both : AreWhole (length (roster first) + length (roster second)) parts
      → AreWhole (length (roster (first ++ second))) (parts_by_owner (first ++ second) (states ++ more))
  whole_of_both whole = subst (AreWhole (length (roster (first ++ second)))) (sym sources)
      (subst (λ n. AreWhole n parts) (sym counted) whole)

  whole_by_two : AreWhole (length (roster (first ++ second))) (parts_by_owner (first ++ second) (states ++ more))
      → AreWhole (length (roster first) + length (roster second)) parts
  whole_by_two whole = subst (AreWhole (length (roster first) + length (roster second))) sources
      (subst (λ n. AreWhole n (parts_by_owner (first ++ second) (states ++ more))) counted whole)

  report_of_both : (report : Report) → IsReport names (roster first ++ roster second) parts report
      → IsReport names (roster (first ++ second)) (parts_by_owner (first ++ second) (states ++ more)) report
  report_of_both report is =
      subst (λ p. IsReport names (roster (first ++ second)) p report) (sym sources)
      (subst (λ r. IsReport names r parts report) (sym rosters) is)

  report_by_two : (report : Report)
      → IsReport names (roster (first ++ second)) (parts_by_owner (first ++ second) (states ++ more)) report
      → IsReport names (roster first ++ roster second) parts report
  report_by_two report is =
      subst (λ p. IsReport names (roster first ++ roster second) p report) sources
      (subst (λ r. IsReport names r (parts_by_owner (first ++ second) (states ++ more)) report) rosters is)

  -- both have the report that is joined of theirs
  pub outcome_joined : (report other : Report) → IsOutcome names first states (Ok report)
      → IsOutcome names second more (Ok other) → IsOutcome names (first ++ second) (states ++ more) (Ok (joined_report report other))
  outcome_joined report other is also = (
    none is.0 also.0,
    whole_of_both (whole_joined (length (roster first)) (length (roster second)) (parts_by_owner first states)
        (parts_by_owner second more) own is.1 also.1),
    report_of_both (joined_report report other) (report_joined names (roster first) (roster second)
        (parts_by_owner first states) (parts_by_owner second more) own report other is.2 also.2),
  )

  -- and where both have a report, each has
  module _ (report : Report) (is : IsOutcome names (first ++ second) (states ++ more) (Ok report)) where
    cut : InTwo (length (roster first)) report.senders
    cut = in_two (length (roster first)) (length (roster second)) report.senders (is.2.one_each ∙ counted)

    as_cut : IsReport names (roster first ++ roster second) parts (record { senders = cut.front ++ cut.rest })
    as_cut = subst (λ rows. IsReport names (roster first ++ roster second) parts (record { senders = rows })) cut.is
        (report_by_two report is.2)

    abbrev one : Report
    one = record { senders = cut.front }

    abbrev other : Report
    other = record { senders = map (row_before (length (roster first))) cut.rest }

    is_one : IsOutcome names first states (Ok one)
    is_one = (
      none_of_first is.0,
      whole_first (length (roster first)) (length (roster second)) (parts_by_owner first states)
          (parts_by_owner second more) own (whole_by_two is.1),
      report_first names (roster first) (roster second) (parts_by_owner first states) (parts_by_owner second more) own
          cut.front cut.rest cut.long as_cut,
    )

    is_other : IsOutcome names second more (Ok other)
    is_other = (
      none_of_second is.0,
      whole_second (length (roster first)) (length (roster second)) (parts_by_owner first states)
          (parts_by_owner second more) own (whole_by_two is.1),
      report_second names (roster first) (roster second) (parts_by_owner first states) (parts_by_owner second more)
          own cut.front cut.rest cut.long as_cut,
    )

    pub outcome_cut : IsJoined names first second states more report
    outcome_cut = record {
      report = one;
      other = other;
      of_first = is_one;
      of_second = is_other;
      is =
          let made = outcome_joined one other is_one is_other in
          one_report names (roster (first ++ second)) (parts_by_owner (first ++ second) (states ++ more)) is.1 report
          (joined_report one other) is.2 made.2;
    }

  refused_of_both : (why : Refused) → HaveRefused parts why → HaveRefused (parts_by_owner (first ++ second) (states ++ more)) why
  refused_of_both why have = subst (λ p. HaveRefused p why) (sym sources) have

  lack_of_both : (what : Unfinished) → Lack (length (roster first) + length (roster second)) parts what
      → Lack (length (roster (first ++ second))) (parts_by_owner (first ++ second) (states ++ more)) what
  lack_of_both what lack = subst (λ p. Lack (length (roster (first ++ second))) p what) (sym sources)
      (subst (λ n. Lack n parts what) (sym counted) lack)

  lack_by_two : (what : Unfinished)
      → Lack (length (roster (first ++ second))) (parts_by_owner (first ++ second) (states ++ more)) what
      → Lack (length (roster first) + length (roster second)) parts what
  lack_by_two what lack = subst (λ p. Lack (length (roster first) + length (roster second)) p what) sources
      (subst (λ n. Lack n (parts_by_owner (first ++ second) (states ++ more)) what) counted lack)

  -- a source of the first list that is refused comes before all of the second
  pub source_of_first : (name : List ℕ) (part : ℕ) (why : FileFault)
      → IsOutcome names first states (Err (Sender name part why))
      → IsOutcome names (first ++ second) (states ++ more) (Err (Sender name part why))
  source_of_first name part why h = subst (λ l. IsRefusedSource (first ++ second) l name part why) (sym faults)
      (source_first first second (faults_of states) (faults_of more) apart long name part why h)

  -- what the first list is refused for, both are, if no source of the second is refused
  pub refusal_of_first : (fault : AuditFault) → NoneRefused (faults_of more)
      → IsOutcome names first states (Err fault) → IsOutcome names (first ++ second) (states ++ more) (Err fault)
  refusal_of_first (Sender name part why) clear h = source_of_first name part why h
  refusal_of_first (Collect (collect.Roster why)) clear h = h
  refusal_of_first (Collect (collect.Refused why)) clear h =
      (none h.0 clear, refused_of_both why (refused_first (parts_by_owner first states) _ why h.1))
  refusal_of_first (Collect (collect.Unfinished what)) clear h = (
    none h.0 clear,
    lack_of_both what (lack_first (length (roster first)) (parts_by_owner first states)
        (parts_by_owner second more) own (length (roster second)) what h.1),
  )
  refusal_of_first NoThread clear h = tt
  refusal_of_first Memory clear h = tt
  refusal_of_first TooManyParts clear h = h

  -- and likewise of the second
  pub refusal_of_second : (fault : AuditFault) → NoneRefused (faults_of states)
      → IsOutcome names second more (Err fault)
      → IsOutcome names (first ++ second) (states ++ more) (Err (fault_after (length (roster first)) fault))
  refusal_of_second (Sender name part why) clear h = subst (λ l. IsRefusedSource (first ++ second) l name part why)
      (sym faults) (source_second first second (faults_of states) (faults_of more) apart long name part why clear h)
  refusal_of_second (Collect (collect.Roster why)) clear h = h
  refusal_of_second (Collect (collect.Refused why)) clear h = (
    none clear h.0,
    refused_of_both (refused_after (length (roster first)) why)
        (refused_second (length (roster first)) (parts_by_owner first states) (parts_by_owner second more) own why h.1),
  )
  refusal_of_second (Collect (collect.Unfinished what)) clear h = (
    none clear h.0,
    lack_of_both (unfinished_after (length (roster first)) what)
        (lack_second (length (roster first)) (parts_by_owner first states) (parts_by_owner second more) own
        (length (roster second)) what h.1),
  )
  refusal_of_second NoThread clear h = tt
  refusal_of_second Memory clear h = tt
  refusal_of_second TooManyParts clear h = h

  -- what both are refused for, one of them is
  pub refusal_of_either : (fault : AuditFault) → IsOutcome names (first ++ second) (states ++ more) (Err fault)
      → IsOfEither names first second states more fault
  refusal_of_either (Sender name part why) h =
      elim (source_either first second (faults_of states) (faults_of more) apart long name part why
      (subst (λ l. IsRefusedSource (first ++ second) l name part why) faults h)) [
        | inl one ↦ inl one
        | inr other ↦ inr (Sender name part why, other, refl)
      ]
  refusal_of_either (Collect (collect.Roster why)) h = absurd h
  refusal_of_either (Collect (collect.Refused why)) h =
      elim (refused_either (length (roster first)) (parts_by_owner first states) (parts_by_owner second more) own why
      (subst (λ p. HaveRefused p why) sources h.1)) [
        | inl one ↦ inl (none_of_first h.0, one)
        | inr other ↦ inr (
          Collect (collect.Refused other.own),
          (none_of_second h.0, other.have),
          ap (λ w. Collect (collect.Refused w)) other.is,
        )
      ]
  refusal_of_either (Collect (collect.Unfinished what)) h =
      elim (lack_either (length (roster first)) (parts_by_owner first states) (parts_by_owner second more) own
      (length (roster second)) what (lack_by_two what h.1)) [
        | inl one ↦ inl (none_of_first h.0, one)
        | inr other ↦ inr (
          Collect (collect.Unfinished other.own),
          (none_of_second h.0, other.lack),
          ap (λ w. Collect (collect.Unfinished w)) other.is,
        )
      ]
  refusal_of_either NoThread h = inl tt
  refusal_of_either Memory h = inl tt
  refusal_of_either TooManyParts h = absurd h
