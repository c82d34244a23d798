-- If all passes are joined and nothing is left, the gathered outcomes are the answers of all jobs.
use Rattle.std.proofs.Common.{◌≡◌, ℕ, ◌+◌, ◌-◌, ◌<◌, ◌≤◌, List, [], ◌∷◌, ◌++◌, map, Option, None, Result, Ok, Err}
use Rattle.std.proofs.Common.{IsPermutation, refl, sym, ap, ◌∙◌, subst, ⊎_elim, arith, append-nil, vec_len, length}
use Rattle.std.proofs.Common.{replicate}
use Rattle.std.specs.List.{zip}
use Rattle.std.proofs.lemmas.Slice.Zip.{AllZip-long}
use Rattle.audit_files.specs.Files.{IsStatedBy}
use Rattle.audit_files.specs.Requests.{requests_of_file}
use Rattle.std.proofs.lemmas.List.{map-append, length-map}
use Rattle.std.proofs.lemmas.List.Sorted.{IsPermutation-map, IsPermutation-trans}
use Rattle.audit_collect.specs.Complete.{IsReportOf}
use Rattle.audit_collect.specs.SenderState.{SenderState, after, start}
use Rattle.audit_collect.proofs.CompleteLaw.{finished_report}
use Rattle.audit_collect.specs.Roster.{IsRoster}
use Rattle.audit_collect.specs.declared.arrival.Arrival.{Arrival}
use Rattle.audit_collect.specs.declared.fault.Refused.{Refused}
use Rattle.audit_collect.specs.declared.report.Report.{Report}
use Rattle.audit_files.specs.Feeding.{Ahead}
use Rattle.audit_run.specs.declared.message.Names.{Names}
use Rattle.audit_run.specs.declared.message.Job.{Job}
use Rattle.audit_run.specs.declared.message.Job.TheVariants.{Stop}
use Rattle.audit_run.specs.declared.message.Outcome.{Outcome}
use Rattle.audit_run.specs.Names.{answer}
use Rattle.audit_run.specs.Passes.{PassView, split_off, with_joined, IsEmpty, IsOnlyPass}
use Rattle.audit_run.specs.declared.prepared.PreparedRun.{PreparedRun}
use Rattle.audit_run.specs.declared.prepared.EndedRun.{EndedRun}
use Rattle.audit_run.specs.declared.fault.AuditFault.{AuditFault}
use Rattle.audit_run.specs.declared.gather.Gathering.{Gathering}
use Rattle.audit_collect.specs.declared.fault.CollectFault.TheVariants as collect
use Rattle.audit_collect.specs.declared.fault.Refused.TheVariants as refused
use Rattle.audit_collect.specs.declared.fault.RosterFault.TheVariants as roster_fault
use Rattle.audit_files.specs.declared.fault.FileFault.{FileFault}
use Rattle.audit_run.specs.declared.fault.AuditFault.TheVariants.{Sender, Collect, NoThread, Memory, TooManyParts}
use Rattle.audit_run.specs.Outcome.{HaveRefused, IsReport}
use Rattle.audit_run.proofs.HeldRequests.{lacking, whole as whole_sources}
use Rattle.audit_run.proofs.SourceContent.{all_owned, all_rise}
use Rattle.audit_run.proofs.Refusals.{refused_of_sources}
use Rattle.audit_run.proofs.RunReports.{reported}
use Rattle.audit_run.specs.IsAuditResult.{HasGained, IsAuditResult, IsOutcome, IsReportOfArrived, IsRunResult}
use Rattle.audit_run.specs.IsAuditResult.{MemoryComesFirst, NoneRefused, most_parts}
use Rattle.audit_run.specs.Body.Concluded.{Concludes, RefusesSenders}
use Rattle.audit_run.specs.Arrivals.{arrivals_of}
use Rattle.audit_run.specs.Body.Gathered.{collector_after, RanOutOfMemory, Gathers, Drains}
use Rattle.audit_run.specs.Parts.{AreRead, HavePut, Stated, fault_in, faults_of, parts_by_owner, run_jobs}
use Rattle.audit_run.specs.Body.FreshPasses.{with_messages, after_splits}
use Rattle.audit_run.specs.Roster.{owners, index_in, roster}
use Rattle.audit_run.specs.Body.Run.{HasRun}
use Rattle.audit_run.specs.Body.Work.{AreParts, IsPart, after_run}
use Rattle.audit_run.proofs.Joins.{whole_put}
use Rattle.audit_run.proofs.Gains.{gaining_more, gathers_more}
use Rattle.audit_run.proofs.CommonElements.{cancel}

-- the caller's pass takes the run's in
pub back : (names : Names) (p : PassView) (sources workers : ℕ) (put taken : List Job) (gathered : List Outcome)
    → (sources + workers) + 1 < p.weight
    → with_joined (after_splits p ((sources + workers) + 1))
    (after_run names (split_off p) sources workers put taken gathered) ≡ with_messages p put taken (map (answer names) taken) gathered
back names p sources workers put taken gathered enough =
    let same : (p.weight - ((sources + workers) + 1)) + ((1 + sources) + workers) ≡ p.weight = omega arith in
    λ i. record p {
      weight = same i;
      jobs_put = p.jobs_put ++ put;
      jobs_taken = p.jobs_taken ++ taken;
      outcomes_put = p.outcomes_put ++ map (answer names) taken;
      outcomes_taken = p.outcomes_taken ++ gathered;
    }

-- after the rest was answered and gathered
pub drained : (names : Names) (p q : PassView) (put taken jobs : List Job) (gathered outcomes : List Outcome)
    → q ≡ with_messages (with_messages p put taken (map (answer names) taken) gathered) [] jobs (map (answer names) jobs) outcomes
    → q ≡ with_messages p put (taken ++ jobs) (map (answer names) (taken ++ jobs)) (gathered ++ outcomes)
drained names p q put taken jobs gathered outcomes is =
    is ∙ (gaining_more p put taken (map (answer names) taken) gathered [] jobs (map (answer names) jobs) outcomes
    ∙ (λ i. with_messages p (append-nil put i) (taken ++ jobs) (sym (map-append (answer names) taken jobs) i) (gathered ++ outcomes)))

-- a list that was cancelled out before is cancelled out again
rest : {X : Type 0} (old_put old_taken put taken : List X) → IsPermutation old_put (old_taken ++ [])
    → IsPermutation (old_put ++ put) ((old_taken ++ taken) ++ []) → IsPermutation put taken
rest {X} old_put old_taken put taken before after =
    cancel old_put old_taken put taken (subst (λ (l : List X). IsPermutation old_put l) (append-nil old_taken) before)
    (subst (λ (l : List X). IsPermutation (old_put ++ put) l) (append-nil (old_taken ++ taken)) after)

pub all_answered : (names : Names) (p q : PassView) (put taken : List Job) (outcomes : List Outcome)
    → q ≡ with_messages p put taken (map (answer names) taken) outcomes → IsEmpty p → IsEmpty q
    → IsPermutation (map (answer names) put) outcomes
all_answered names p q put taken outcomes is before after =
    let now = subst IsEmpty is after in
    IsPermutation-trans _ _ _ (IsPermutation-map (answer names) put taken (rest p.jobs_put p.jobs_taken put taken before.0.0 now.0.0))
    (rest p.outcomes_put p.outcomes_taken (map (answer names) taken) outcomes before.1.0 now.1.0)

-- the parts are the sources by their owners, and what they state
pub parts_are : (owners : List ℕ) (readable_bytes : List (Option Ahead)) (parts : List (ℕ × Stated))
    → length owners ≡ length readable_bytes → AreParts (zip owners readable_bytes) parts
    → (states : List Stated) × AreRead readable_bytes states × (parts ≡ zip owners states)
parts_are [] [] [] same are = ([], tt, refl)
parts_are [] [] (p ∷ ps) same are = absurd are
parts_are [] (t ∷ ts) parts same are = absurd (omega (arith, same))
parts_are (o ∷ os) [] parts same are = absurd (omega (arith, same))
parts_are (o ∷ os) (t ∷ ts) [] same are = absurd are
parts_are (o ∷ os) (t ∷ ts) (p ∷ ps) same are =
    let more = parts_are os ts ps (omega (arith, same)) are.1 in (p.1 ∷ more.0, (are.0.1, more.1), λ i. (are.0.0 i, p.1) ∷ more.2 i)

-- the faults of the parts are those of what the sources state
pub faults_are : (owners : List ℕ) (states : List Stated) → length states ≡ length owners
    → map (λ (part : ℕ × Stated). fault_in part.1) (zip owners states) ≡ faults_of states
faults_are [] [] same = refl
faults_are [] (s ∷ ss) same = absurd (omega (arith, same))
faults_are (o ∷ os) [] same = absurd (omega (arith, same))
faults_are (o ∷ os) (s ∷ ss) same = ap (λ l. fault_in s ∷ l) (faults_are os ss (omega (arith, same)))

pub faults_long : (names : Names) (readable_bytes : List (ℕ × Option Ahead)) (sources : ℕ) (prepared : PreparedRun)
    (ended : EndedRun) → HasRun names readable_bytes sources prepared ended → length ended.faults.items ≡ length readable_bytes
faults_long names readable_bytes sources prepared ended run =
    ap (λ l. length l) run.faults ∙ (length-map run.parts (λ (part : ℕ × Stated). fault_in part.1)
    ∙ AllZip-long IsPart readable_bytes run.parts run.read)

-- if memory ran out while arrivals were gathered, the result does not depend on them
any_arrivals : (sources : List (List ℕ)) (faults : List (Option FileFault))
    (comes : Result (List SenderState) Refused) (result : Result Report AuditFault)
    → Concludes sources faults (Err refused.Memory) result → Concludes sources faults comes result
any_arrivals sources faults comes (Ok report) a = absurd (ok_or_err _ _ a.1.1)
  where
    ok_or_err : (x : Refused) (held : List SenderState) → Err x ≡ Ok held → ⊥
    ok_or_err x held e = cc
any_arrivals sources faults comes (Err (Sender name part fault)) a = absurd (a.2 refl)
any_arrivals sources faults comes (Err (Collect (collect.Roster why))) a = a
any_arrivals sources faults comes (Err (Collect (collect.Refused refused.Memory))) a = a
any_arrivals sources faults comes (Err (Collect (collect.Refused (refused.Stranger s)))) a = absurd (let e = a.1 in cc)
any_arrivals sources faults comes (Err (Collect (collect.Refused (refused.ZeroNumber s)))) a = absurd (let e = a.1 in cc)
any_arrivals sources faults comes (Err (Collect (collect.Refused (refused.Double s n)))) a = absurd (let e = a.1 in cc)
any_arrivals sources faults comes (Err (Collect (collect.Refused (refused.ClosedTwice s)))) a = absurd (let e = a.1 in cc)
any_arrivals sources faults comes (Err (Collect (collect.Refused (refused.PastClose s n)))) a = absurd (let e = a.1 in cc)
any_arrivals sources faults comes (Err (Collect (collect.Unfinished what))) a = absurd (let e = a.1.1 in cc)
any_arrivals sources faults comes (Err NoThread) a = a
any_arrivals sources faults comes (Err Memory) a = a
any_arrivals sources faults comes (Err TooManyParts) a = a

-- what was gathered decides the answer
concluded : (sources : List (List ℕ)) (faults : List (Option FileFault)) (g h : Gathering) (outcomes : List Outcome)
    (result : Result Report AuditFault)
    → Gathers g outcomes h → g.collector ≡ start (roster sources) → g.refused ≡ None
    → Concludes sources faults (collector_after h.collector h.refused []) result
    → Concludes sources faults (after (start (roster sources)) (arrivals_of outcomes)) result
concluded sources faults g h outcomes result gathers collector none answers =
    ⊎_elim (λ (m : RanOutOfMemory h). any_arrivals sources faults _ result
    (subst (λ (o : Option Refused). Concludes sources faults (collector_after h.collector o []) result) m answers))
    (λ (same : (rest : List Arrival) → collector_after g.collector g.refused (arrivals_of outcomes ++ rest)
    ≡ collector_after h.collector h.refused rest).
    subst (λ (comes : Result (List SenderState) Refused). Concludes sources faults comes result) (sym (same [])
    ∙ (λ i. collector_after (collector i) (none i) (append-nil (arrivals_of outcomes) i))) answers)
    gathers.same

refused_by : (names : Names) (sources : List (List ℕ)) (readable_bytes : List (Option Ahead)) (states : List Stated)
    (workers : ℕ) (outcomes : List Outcome) (why : Refused)
    → AreRead readable_bytes states → IsPermutation (map (answer names) (run_jobs workers (parts_by_owner sources states))) outcomes
    → after (start (roster sources)) (arrivals_of outcomes) ≡ Err why → HaveRefused (parts_by_owner sources states) why
refused_by names sources readable_bytes states workers outcomes why read all e =
    refused_of_sources names (roster sources) workers (parts_by_owner sources states) outcomes
    (all_rise sources readable_bytes states read) (all_owned sources states) all why e

-- the result of a collector for the arrivals is the outcome of what the sources state
come_to : (names : Names) (sources : List (List ℕ)) (readable_bytes : List (Option Ahead)) (states : List Stated)
    (workers : ℕ) (outcomes : List Outcome) (result : Result Report AuditFault)
    → AreRead readable_bytes states
    → (NoneRefused (faults_of states) → IsPermutation (map (answer names) (run_jobs workers (parts_by_owner sources states))) outcomes)
    → Concludes sources (faults_of states) (after (start (roster sources)) (arrivals_of outcomes)) result
    → IsOutcome names sources states result
come_to names sources readable_bytes states workers outcomes (Ok report) read all (sound, (held, ran, finished, is)) = (
  sound,
  whole_sources names (roster sources) workers (parts_by_owner sources states) outcomes (all sound) held ran finished,
  subst (IsReport names (roster sources) (parts_by_owner sources states)) (sym is)
      (reported names (roster sources) workers (parts_by_owner sources states) outcomes (all sound) held ran finished),
)
come_to names sources readable_bytes states workers outcomes (Err (Sender name part fault)) read all a = a.0
come_to names sources readable_bytes states workers outcomes (Err (Collect (collect.Roster why))) read all a = a
come_to names sources readable_bytes states workers outcomes (Err (Collect (collect.Refused refused.Memory))) read all a = absurd a
come_to names sources readable_bytes states workers outcomes (Err (Collect (collect.Refused (refused.Stranger s))))
    read all a = (a.0, refused_by names sources readable_bytes states workers outcomes (refused.Stranger s) read (all a.0) a.1)
come_to names sources readable_bytes states workers outcomes (Err (Collect (collect.Refused (refused.ZeroNumber s))))
    read all a = (a.0, refused_by names sources readable_bytes states workers outcomes (refused.ZeroNumber s) read (all a.0) a.1)
come_to names sources readable_bytes states workers outcomes (Err (Collect (collect.Refused (refused.Double s n))))
    read all a = (a.0, refused_by names sources readable_bytes states workers outcomes (refused.Double s n) read (all a.0) a.1)
come_to names sources readable_bytes states workers outcomes (Err (Collect (collect.Refused (refused.ClosedTwice s))))
    read all a = (a.0, refused_by names sources readable_bytes states workers outcomes (refused.ClosedTwice s) read (all a.0) a.1)
come_to names sources readable_bytes states workers outcomes (Err (Collect (collect.Refused (refused.PastClose s n))))
    read all a = (a.0, refused_by names sources readable_bytes states workers outcomes (refused.PastClose s n) read (all a.0) a.1)
come_to names sources readable_bytes states workers outcomes (Err (Collect (collect.Unfinished what))) read all
    (sound, (held, ran, first)) =
    (sound, lacking names (roster sources) workers (parts_by_owner sources states) outcomes (all sound) held ran what first)
come_to names sources readable_bytes states workers outcomes (Err NoThread) read all a = tt
come_to names sources readable_bytes states workers outcomes (Err Memory) read all a = tt
come_to names sources readable_bytes states workers outcomes (Err TooManyParts) read all a = absurd a

-- if there is a report, the arrivals are complete
arrived_of : (sources : List (List ℕ)) (faults : List (Option FileFault)) (outcomes : List Outcome) (result : Result Report AuditFault)
    → Concludes sources faults (after (start (roster sources)) (arrivals_of outcomes)) result → IsReportOfArrived sources outcomes result
arrived_of sources faults outcomes (Ok report) (sound, (held, ran, finished, is)) =
    subst (IsReportOf (roster sources) (arrivals_of outcomes)) (sym is)
    (finished_report (roster sources) (arrivals_of outcomes) held ran finished)
arrived_of sources faults outcomes (Err fault) a = tt

-- a source is refused only if allocation failed for none
memory_first_of : (sources : List (List ℕ)) (faults : List (Option FileFault))
    (comes : Result (List SenderState) Refused) (result : Result Report AuditFault)
    → Concludes sources faults comes result → MemoryComesFirst faults result
memory_first_of sources faults comes (Ok report) a = tt
memory_first_of sources faults comes (Err (Sender name part fault)) a = a.1
memory_first_of sources faults comes (Err (Collect fault)) a = tt
memory_first_of sources faults comes (Err NoThread) a = tt
memory_first_of sources faults comes (Err Memory) a = tt
memory_first_of sources faults comes (Err TooManyParts) a = tt

-- a result of a run
audited : (names : Names) (sources : List (List ℕ)) (readable_bytes : List (Option Ahead)) (workers : ℕ)
    (old new : PassView) (faults : List (Option FileFault)) (comes : Result (List SenderState) Refused) (result : Result Report AuditFault)
    → Concludes sources faults comes result → (ran : IsRunResult names sources readable_bytes result)
    → HasGained names sources ran.states workers old new result → IsAuditResult names sources readable_bytes workers old new result
audited names sources readable_bytes workers old new faults comes (Ok report) a ran gained = (ran, gained)
audited names sources readable_bytes workers old new faults comes (Err (Sender name part fault)) a ran gained = (ran, gained)
audited names sources readable_bytes workers old new faults comes (Err (Collect (collect.Roster why))) a ran gained = absurd a
audited names sources readable_bytes workers old new faults comes (Err (Collect (collect.Refused why))) a ran gained = (ran, gained)
audited names sources readable_bytes workers old new faults comes (Err (Collect (collect.Unfinished what))) a ran gained = (ran, gained)
audited names sources readable_bytes workers old new faults comes (Err NoThread) a ran gained = (ran.few, tt)
audited names sources readable_bytes workers old new faults comes (Err Memory) a ran gained = (tt, tt)
audited names sources readable_bytes workers old new faults comes (Err TooManyParts) a ran gained = absurd a

-- a result before any thread starts
pub senders_refused : (names : Names) (sources : List (List ℕ)) (readable_bytes : List (Option Ahead)) (workers : ℕ)
    (p : PassView) (fault : AuditFault)
    → length sources ≤ most_parts → RefusesSenders (roster sources) fault
    → IsAuditResult names sources readable_bytes workers p p (Err fault)
senders_refused names sources readable_bytes workers p (Sender name part fault) few refuses = absurd refuses
senders_refused names sources readable_bytes workers p (Collect (collect.Roster roster_fault.Memory)) few refuses = absurd refuses
senders_refused names sources readable_bytes workers p (Collect (collect.Roster roster_fault.TooManySenders)) few
    refuses = ((few, refuses), refl)
senders_refused names sources readable_bytes workers p (Collect (collect.Roster (roster_fault.SenderTwice name))) few
    refuses = absurd refuses
senders_refused names sources readable_bytes workers p (Collect (collect.Refused why)) few refuses = absurd refuses
senders_refused names sources readable_bytes workers p (Collect (collect.Unfinished what)) few refuses = absurd refuses
senders_refused names sources readable_bytes workers p NoThread few refuses = absurd refuses
senders_refused names sources readable_bytes workers p Memory few refuses = (tt, tt)
senders_refused names sources readable_bytes workers p TooManyParts few refuses = absurd refuses

pub settled : (names : Names) (sources : List (List ℕ)) (readable_bytes : List (Option Ahead)) (count workers : ℕ)
    (p p1 p2 p3 : PassView) (prepared : PreparedRun) (ended : EndedRun) (g : Gathering) (result : Result Report AuditFault)
    → length sources ≤ most_parts → IsRoster (roster sources) → length sources ≡ count → length readable_bytes ≡ count
    → IsOnlyPass p → IsEmpty p → (count + workers) + 1 < 1024
    → vec_len prepared.worker_passes ≡ workers → prepared.gathering.collector ≡ start (roster sources)
    → prepared.gathering.refused ≡ None → prepared.pass ≡ split_off p → p1 ≡ after_splits p ((count + workers) + 1)
    → HasRun names (zip (owners sources) readable_bytes) count prepared ended → p2 ≡ with_joined p1 ended.pass
    → Drains names p2 ended.gathering p3 g → (IsOnlyPass p2 → IsEmpty p3)
    → Concludes sources ended.faults.items (collector_after g.collector g.refused []) result
    → IsAuditResult names sources readable_bytes workers p p3 result
settled names sources readable_bytes count workers p p1 p2 p3 prepared ended g result few is_roster sources_are
    told_are whole empty light_enough workers_are collector unrefused mine light run merged drain left answers =
    let owners_are : length (owners sources) ≡ length sources = length-map sources (λ (name : List ℕ). index_in name (roster sources)) in
    let stated = parts_are (owners sources) readable_bytes run.parts (omega (arith, owners_are, sources_are, told_are)) run.read in
    let states : List Stated = stated.0 in
    let long : length states ≡ length readable_bytes = AllZip-long (IsStatedBy requests_of_file) readable_bytes states stated.1 in
    let same_faults : map (λ (part : ℕ × Stated). fault_in part.1) (parts_by_owner sources states) ≡ faults_of
    states = faults_are (owners sources) states (omega (arith, long, owners_are, sources_are, told_are)) in
    let faults : ended.faults.items ≡ faults_of states = run.faults
    ∙ (ap (map (λ (part : ℕ × Stated). fault_in part.1)) stated.2 ∙ same_faults) in
    let put : List Job = replicate workers Stop ++ run.put in
    let taken : List Job = run.taken ++ drain.jobs in
    let outcomes : List Outcome = run.gathered ++ drain.outcomes in
    let ran : ended.pass ≡ after_run names (split_off p) count workers put run.taken run.gathered =
    run.pass ∙ (λ i. after_run names (mine i) count (workers_are i) (replicate (workers_are i) Stop ++ run.put) run.taken run.gathered) in
    let enough : (count + workers) + 1 < p.weight = omega (arith, light_enough, whole) in
    let two : p2 ≡ with_messages p put run.taken (map (answer names) run.taken) run.gathered =
    merged ∙ ((λ i. with_joined (light i) (ran i)) ∙ back names p count workers put run.taken run.gathered enough) in
    let three : p3 ≡ with_messages p put taken (map (answer names) taken) outcomes =
    drained names p p3 put run.taken drain.jobs run.gathered drain.outcomes (drain.pass
    ∙ ap (λ (x : PassView). with_messages x [] drain.jobs (map (answer names) drain.jobs) drain.outcomes) two) in
    let nothing : IsEmpty p3 = left (ap (λ (x : PassView). x.weight) two ∙ whole) in
    let decided : Concludes sources (faults_of states) (after (start (roster sources)) (arrivals_of outcomes)) result =
    concluded sources (faults_of states) prepared.gathering g outcomes result
    (gathers_more prepared.gathering ended.gathering g run.gathered drain.outcomes run.gathers drain.gathered) collector unrefused
    (subst (λ (l : List (Option FileFault)). Concludes sources l (collector_after g.collector g.refused []) result) faults answers) in
    let have_put : HavePut (parts_by_owner sources states) run.put =
    subst (λ (parts : List (ℕ × Stated)). HavePut parts run.put) stated.2 run.have_put in
    let all : IsPermutation (map (answer names) put) outcomes = all_answered names p p3 put taken outcomes three empty nothing in
    let stated_all : NoneRefused (faults_of states)
    → IsPermutation (map (answer names) (run_jobs workers (parts_by_owner sources states))) outcomes = λ none.
    let own : NoneRefused (map (λ (part : ℕ × Stated). fault_in part.1) (parts_by_owner sources states)) =
    subst NoneRefused (sym same_faults) none in
    subst (λ (jobs : List Job). IsPermutation (map (answer names) (replicate workers Stop ++ jobs)) outcomes)
    (whole_put (parts_by_owner sources states) run.put own have_put) all in
    let ran : IsRunResult names sources readable_bytes result = record {
      few = (few, is_roster.few);
      states = states;
      read = stated.1;
      outcome = come_to names sources readable_bytes states workers outcomes result stated.1 stated_all decided;
      memory_first = memory_first_of sources (faults_of states) _ result decided;
    } in
    audited names sources readable_bytes workers p p3 _ _ result decided ran (record {
      put = run.put;
      have_put = have_put;
      outcomes = outcomes;
      gained = ap (λ (x : PassView). x.outcomes_taken) three;
      all = all;
      arrived = arrived_of sources (faults_of states) outcomes result decided;
      whole = ap (λ (x : PassView). x.weight) three ∙ whole;
      same_handoff = ap (λ (x : PassView). x.handoff) three;
      same_names = ap (λ (x : PassView). x.names) three;
      empty = nothing;
    })
