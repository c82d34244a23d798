-- Audits of two lists of sources that have no name in common, and of both, read the same.
use Rattle.std.proofs.Common.{◌≡◌, ℕ, zero, suc, List, [], ◌∷◌, ◌++◌, length, Some, Ok, Err, slice_get, sym, ap, subst, ◌∙◌, refl}
use Rattle.std.proofs.lemmas.List.{map-append}
use Rattle.audit_collect.specs.declared.fault.CollectFault.TheVariants as collect
use Rattle.audit_collect.specs.declared.report.Report.{Report}
use Rattle.audit_files.specs.Faults.{IsNotOutOfMemory}
use Rattle.audit_files.specs.Feeding.{Ahead}
use Rattle.audit_files.specs.Files.{IsRead, read_as}
use Rattle.audit_files.specs.Requests.{requests_of_file}
use Rattle.audit_files.specs.declared.fault.FileFault.{FileFault}
use Rattle.audit_run.specs.declared.fault.AuditFault.{AuditFault}
use Rattle.audit_run.specs.declared.fault.AuditFault.TheVariants.{Sender, Collect, NoThread, Memory, TooManyParts}
use Rattle.audit_run.specs.declared.message.Names.{Names}
use Rattle.audit_run.specs.IsAuditResult.{IsOutcome, IsRunResult, NoneRefused}
use Rattle.audit_run.specs.Parts.{AreRead, Stated, faults_of, parts_by_owner}
use Rattle.audit_run.specs.Roster.{roster}
use Rattle.audit_run.specs.Shards.{AreDisjoint, AreShards, IsJoined, IsNoneOfSources, MayReturn, joined_report, names_of_sources, told_of}
use Rattle.audit_run.proofs.WholeSources.{one_report, whole_not_lacking, whole_not_refused}
use Rattle.audit_run.proofs.SourceContent.{all_owned}
use Rattle.audit_run.proofs.ShardLaw.{outcome_cut, outcome_joined}

-- the bytes ahead state one thing
reads : (a : Ahead) (state : Stated) → IsRead requests_of_file (Some a) state → read_as requests_of_file a ≡ state
reads a state is = ap (read_as requests_of_file) (sym is.gives) ∙ is.states

same_state : (a : Ahead) (one other : Stated) → IsRead requests_of_file (Some a) one → IsRead requests_of_file (Some a) other → one ≡ other
same_state a one other is also = sym (reads a one is) ∙ reads a other also

same_states : (sources : List (List ℕ × Ahead)) (states more : List Stated) → AreRead (told_of sources) states
    → AreRead (told_of sources) more → NoneRefused (faults_of states) → NoneRefused (faults_of more) → states ≡ more
same_states [] [] [] read also none none2 = refl
same_states [] [] (s ∷ more) read also none none2 = absurd also
same_states [] (s ∷ states) more read also none none2 = absurd read
same_states (source ∷ sources) [] more read also none none2 = absurd read
same_states (source ∷ sources) (s ∷ states) [] read also none none2 = absurd also
same_states (source ∷ sources) (Err fault ∷ states) (t ∷ more) read also none none2 = absurd (none 0 fault refl)
same_states (source ∷ sources) (Ok x ∷ states) (Err fault ∷ more) read also none none2 = absurd (none2 0 fault refl)
same_states (source ∷ sources) (Ok x ∷ states) (Ok y ∷ more) read also none none2 = λ i.
    same_state source.1 (Ok x) (Ok y) read.0 also.0 i ∷ same_states sources states more read.1 also.1
    (λ index fault there. none (suc index) fault there) (λ index fault there. none2 (suc index) fault there) i

-- what states something is not refused
not_refused : (sources : List (List ℕ × Ahead)) (states more : List Stated) → AreRead (told_of sources) states
    → AreRead (told_of sources) more → NoneRefused (faults_of more)
    → (index : ℕ) (fault : FileFault) → IsNotOutOfMemory fault → slice_get (faults_of states) index ≡ Some (Some fault) → ⊥
not_refused [] [] more read also none index fault of there = cc
not_refused [] (s ∷ states) more read also none index fault of there = read
not_refused (source ∷ sources) [] more read also none index fault of there = read
not_refused (source ∷ sources) (s ∷ states) [] read also none index fault of there = also
not_refused (source ∷ sources) (s ∷ states) (Err other ∷ more) read also none index fault of there = none 0 other refl
not_refused (source ∷ sources) (Ok x ∷ states) (Ok y ∷ more) read also none zero fault of there = cc
not_refused (source ∷ sources) (Err why ∷ states) (Ok y ∷ more) read also none zero fault of there =
    let same : why ≡ fault = cc in
    let clash : Err why ≡ Ok y = same_state source.1 (Err why) (Ok y) (read.0 (subst IsNotOutOfMemory (sym same) of)) also.0 in
    cc
not_refused (source ∷ sources) (s ∷ states) (Ok y ∷ more) read also none (suc index) fault of there =
    not_refused sources states more read.1 also.1 (λ p f at. none (suc p) f at) index fault of there

read_joined : (first second : List (List ℕ × Ahead)) (states more : List Stated) → AreRead (told_of first) states
    → AreRead (told_of second) more → AreRead (told_of (first ++ second)) (states ++ more)
read_joined [] second [] more read also = also
read_joined [] second (s ∷ states) more read also = absurd read
read_joined (source ∷ first) second [] more read also = absurd read
read_joined (source ∷ first) second (s ∷ states) more read also = (read.0, read_joined first second states more read.1 also)

-- what is read of both is what is read of the first, and then what is read of the second
record ReadInTwo (first second : List (List ℕ × Ahead)) (states : List Stated) : Type 0 where
  pub front : List Stated
  pub rest : List Stated
  pub is : states ≡ front ++ rest
  pub read : AreRead (told_of first) front
  pub also : AreRead (told_of second) rest

read_in_two : (first second : List (List ℕ × Ahead)) (states : List Stated)
    → AreRead (told_of (first ++ second)) states → ReadInTwo first second states
read_in_two [] second states read = record { front = []; rest = states; is = refl; read = tt; also = read }
read_in_two (source ∷ first) second [] read = absurd read
read_in_two (source ∷ first) second (s ∷ states) read =
    let more = read_in_two first second states read.1 in
    record { front = s ∷ more.front; rest = more.rest; is = ap (λ l. s ∷ l) more.is; read = (read.0, more.read); also = more.also }

read_long : (sources : List (List ℕ × Ahead)) (states : List Stated) → AreRead (told_of sources) states
    → length states ≡ length (names_of_sources sources)
read_long [] [] read = refl
read_long [] (s ∷ states) read = absurd read
read_long (source ∷ sources) [] read = absurd read
read_long (source ∷ sources) (s ∷ states) read = ap suc (read_long sources states read.1)

-- where what the bytes state has a report, an audit returns no other, and no fault of the sources
module _ (names : Names) (sources : List (List ℕ × Ahead)) (states : List Stated) (report : Report)
    (read : AreRead (told_of sources) states) (outcome : IsOutcome names (names_of_sources sources) states (Ok report)) where
  outcome_of : (states2 : List Stated) → AreRead (told_of sources) states2 → NoneRefused (faults_of states2)
      → IsOutcome names (names_of_sources sources) states2 (Ok report)
  outcome_of states2 read2 none = subst (λ l. IsOutcome names (names_of_sources sources) l (Ok report))
      (sym (same_states sources states2 states read2 read none outcome.0)) outcome

  one_returned : (whole : Report) → MayReturn names sources (Ok whole) → whole ≡ report
  one_returned whole returned =
      let run : IsRunResult names (names_of_sources sources) (told_of sources) (Ok whole) = returned in
      let own = run.outcome in
      let made = outcome_of run.states run.read own.0 in
      one_report names (roster (names_of_sources sources)) (parts_by_owner (names_of_sources sources) run.states)
      own.1 whole report own.2 made.2

  no_fault_ran : (fault : AuditFault) → IsRunResult names (names_of_sources sources) (told_of sources) (Err fault) → IsNoneOfSources fault
  no_fault_ran (Sender name part why) run =
      let (index, is_first, of_file, named, part_is) = run.outcome in
      not_refused sources run.states states run.read read outcome.0 index why of_file is_first.there
  no_fault_ran (Collect (collect.Roster why)) run = tt
  no_fault_ran (Collect (collect.Refused why)) run =
      let own = run.outcome in
      let made = outcome_of run.states run.read own.0 in
      whole_not_refused (length (roster (names_of_sources sources)))
      (parts_by_owner (names_of_sources sources) run.states) why (all_owned (names_of_sources sources) run.states) made.1 own.1
  no_fault_ran (Collect (collect.Unfinished what)) run =
      let own = run.outcome in
      let made = outcome_of run.states run.read own.0 in
      whole_not_lacking (length (roster (names_of_sources sources)))
      (parts_by_owner (names_of_sources sources) run.states) what made.1 own.1
  no_fault_ran NoThread run = tt
  no_fault_ran Memory run = tt
  no_fault_ran TooManyParts run = tt

  no_fault_returned : (fault : AuditFault) → MayReturn names sources (Err fault) → IsNoneOfSources fault
  no_fault_returned (Sender name part why) returned = no_fault_ran (Sender name part why) returned
  no_fault_returned (Collect (collect.Roster why)) returned = tt
  no_fault_returned (Collect (collect.Refused why)) returned = no_fault_ran (Collect (collect.Refused why)) returned
  no_fault_returned (Collect (collect.Unfinished what)) returned = no_fault_ran (Collect (collect.Unfinished what)) returned
  no_fault_returned NoThread returned = tt
  no_fault_returned Memory returned = tt
  no_fault_returned TooManyParts returned = tt

module _ (names : Names) (first second : List (List ℕ × Ahead)) (apart : AreDisjoint (names_of_sources first)
    (names_of_sources second)) where
  in_order : names_of_sources (first ++ second) ≡ names_of_sources first ++ names_of_sources second
  in_order = map-append (λ (source : List ℕ × Ahead). source.0) first second

  shards : (states : List Stated) → AreRead (told_of first) states → AreShards (names_of_sources first) (names_of_sources second) states
  shards states read = record { apart = apart; stated = read_long first states read }

  -- two audits that return reports: what both lists state has the joined report
  module _ (report other : Report) (is : MayReturn names first (Ok report)) (also : MayReturn names second (Ok other)) where
    ran : IsRunResult names (names_of_sources first) (told_of first) (Ok report)
    ran = is

    ran_also : IsRunResult names (names_of_sources second) (told_of second) (Ok other)
    ran_also = also

    read : AreRead (told_of (first ++ second)) (ran.states ++ ran_also.states)
    read = read_joined first second ran.states ran_also.states ran.read ran_also.read

    outcome : IsOutcome names (names_of_sources (first ++ second)) (ran.states ++ ran_also.states) (Ok (joined_report report other))
    outcome =
        subst (λ sources. IsOutcome names sources (ran.states ++ ran_also.states) (Ok (joined_report report other))) (sym in_order)
        (outcome_joined names (names_of_sources first) (names_of_sources second) ran.states ran_also.states
        (shards ran.states ran.read) report other ran.outcome ran_also.outcome)

    pub one_report_of_both : (whole : Report) → MayReturn names (first ++ second) (Ok whole) → whole ≡ joined_report report other
    one_report_of_both whole returned = one_returned names (first ++ second) (ran.states ++ ran_also.states)
        (joined_report report other) read outcome whole returned

    pub no_fault_of_both : (fault : AuditFault) → MayReturn names (first ++ second) (Err fault) → IsNoneOfSources fault
    no_fault_of_both fault returned = no_fault_returned names (first ++ second) (ran.states ++ ran_also.states)
        (joined_report report other) read outcome fault returned

  -- an audit of both that returns a report: what each list states has one
  module _ (whole : Report) (is : MayReturn names (first ++ second) (Ok whole)) where
    ran_both : IsRunResult names (names_of_sources (first ++ second)) (told_of (first ++ second)) (Ok whole)
    ran_both = is

    in_two : ReadInTwo first second ran_both.states
    in_two = read_in_two first second ran_both.states ran_both.read

    joined : IsJoined names (names_of_sources first) (names_of_sources second) in_two.front in_two.rest whole
    joined =
        outcome_cut names (names_of_sources first) (names_of_sources second) in_two.front in_two.rest
        (shards in_two.front in_two.read) whole
        (subst (λ l. IsOutcome names (names_of_sources first ++ names_of_sources second) l (Ok whole)) in_two.is
        (subst (λ sources. IsOutcome names sources ran_both.states (Ok whole)) in_order ran_both.outcome))

    pub no_fault_of_first : (fault : AuditFault) → MayReturn names first (Err fault) → IsNoneOfSources fault
    no_fault_of_first fault returned = no_fault_returned names first in_two.front joined.report in_two.read joined.of_first fault returned

    pub no_fault_of_second : (fault : AuditFault) → MayReturn names second (Err fault) → IsNoneOfSources fault
    no_fault_of_second fault returned = no_fault_returned names second in_two.rest joined.other in_two.also joined.of_second fault returned
