-- The gains of a pass and the gathered outcomes, step by step.
use Rattle.std.proofs.Common.{◌≡◌, ℕ, ◌-◌, inl, inr, List, [], ◌∷◌, ◌++◌, map, sym, ap, ◌∙◌, ⊎_elim, refl, arith, append_assoc, append-nil}
use Rattle.std.specs.Prelude.{count_by}
use Rattle.audit_collect.proofs.Members.{count_by-append}
use Rattle.std.proofs.lemmas.List.{map-append}
use Rattle.audit_collect.specs.declared.arrival.Arrival.{Arrival}
use Rattle.audit_run.specs.declared.gather.Gathering.{Gathering}
use Rattle.audit_run.specs.declared.message.Names.{Names}
use Rattle.audit_run.specs.declared.message.Job.{Job}
use Rattle.audit_run.specs.declared.message.Outcome.{Outcome}
use Rattle.audit_run.specs.declared.message.Outcome.TheVariants.{Arrived, End, Stopped}
use Rattle.audit_run.specs.Names.{answer}
use Rattle.audit_run.specs.Passes.{PassView, with_job_taken, with_outcome_put, with_job_put}
use Rattle.audit_run.specs.Body.FreshPasses.{with_messages}
use Rattle.audit_run.specs.Arrivals.{arrivals_of}
use Rattle.audit_run.specs.Body.Gathered.{collector_after, is_last_outcome, is_stopped, RanOutOfMemory, Counts}
use Rattle.audit_run.specs.Body.Gathered.{Gathers, Conducts, HasGatheredAll, Drains}

pub gaining_none : (p : PassView) → with_messages p [] [] [] [] ≡ p
gaining_none p = λ i. record p {
  jobs_put = append-nil p.jobs_put i;
  jobs_taken = append-nil p.jobs_taken i;
  outcomes_put = append-nil p.outcomes_put i;
  outcomes_taken = append-nil p.outcomes_taken i;
}

pub gaining_more : (p : PassView) (a b : List Job) (c d : List Outcome) (a' b' : List Job) (c' d' : List Outcome)
    → with_messages (with_messages p a b c d) a' b' c' d' ≡ with_messages p (a ++ a') (b ++ b') (c ++ c') (d ++ d')
gaining_more p a b c d a' b' c' d' = λ i. record p {
  jobs_put = append_assoc p.jobs_put a a' i;
  jobs_taken = append_assoc p.jobs_taken b b' i;
  outcomes_put = append_assoc p.outcomes_put c c' i;
  outcomes_taken =
      append_assoc p.outcomes_taken d d' i;
}

pub arrivals_of-append : (xs ys : List Outcome) → arrivals_of (xs ++ ys) ≡ arrivals_of xs ++ arrivals_of ys
arrivals_of-append [] ys = refl
arrivals_of-append (Arrived arrival ∷ xs) ys = ap (λ l. arrival ∷ l) (arrivals_of-append xs ys)
arrivals_of-append (End sender ∷ xs) ys = arrivals_of-append xs ys
arrivals_of-append (Stopped ∷ xs) ys = arrivals_of-append xs ys

pub gathers_none : (g : Gathering) → Gathers g [] g
gathers_none g = record { stuck = λ h. h; same = inr (λ rest. refl) }

pub gathers_more : (g h k : Gathering) (xs ys : List Outcome) → Gathers g xs h → Gathers h ys k → Gathers g (xs ++ ys) k
gathers_more g h k xs ys one two = record {
  stuck = λ m. two.stuck (one.stuck m);
  same = ⊎_elim (λ (m : RanOutOfMemory k). inl m)
      (λ (t : (rest : List Arrival) → collector_after h.collector h.refused (arrivals_of ys ++ rest) ≡ collector_after
      k.collector k.refused rest).
      ⊎_elim (λ (m : RanOutOfMemory h). inl (two.stuck m))
      (λ (o : (rest : List Arrival) → collector_after g.collector g.refused (arrivals_of xs ++ rest) ≡ collector_after
      h.collector h.refused rest).
      inr (λ rest. ap (λ l. collector_after g.collector g.refused (l ++ rest)) (arrivals_of-append xs ys)
      ∙ (ap (collector_after g.collector g.refused) (append_assoc (arrivals_of xs) (arrivals_of ys) rest)
      ∙ (o (arrivals_of ys ++ rest) ∙ t rest))))
      one.same)
      two.same;
}

pub counts_none : (g : Gathering) → Counts g [] g
counts_none g = record { sources = omega arith; workers = omega arith }

pub counts_more : (g h k : Gathering) (xs ys : List Outcome) → Counts g xs h → Counts h ys k → Counts g (xs ++ ys) k
counts_more g h k xs ys one two = record {
  sources = omega (arith, count_by-append is_last_outcome xs ys, one.sources, two.sources);
  workers = omega (arith, count_by-append is_stopped xs ys, one.workers, two.workers);
}

pub conducts_none : (p : PassView) (g : Gathering) → Conducts p g [] p g
conducts_none p g = record { outcomes = []; pass = sym (gaining_none p); gathered = gathers_none g; counted = counts_none g }

pub conducts_more : (p q r : PassView) (g h k : Gathering) (js ks : List Job) → Conducts p g js q h
    → Conducts q h ks r k → Conducts p g (js ++ ks) r k
conducts_more p q r g h k js ks one two = record {
  outcomes = one.outcomes ++ two.outcomes;
  pass = two.pass ∙ (ap (λ x. with_messages x ks [] [] two.outcomes) one.pass ∙ gaining_more p js [] [] one.outcomes ks [] [] two.outcomes);
  gathered = gathers_more g h k one.outcomes two.outcomes one.gathered two.gathered;
  counted = counts_more g h k one.outcomes two.outcomes one.counted two.counted;
}

-- no thread still runs, so as many have ended as there were
pub conducted : (p q : PassView) (g h : Gathering) (js : List Job) (sources workers : ℕ)
    → Conducts p (record g { sources_running = sources; workers_running = workers }) js q h → h.sources_running ≡ 0 → h.workers_running ≡ 0
    → HasGatheredAll p g sources workers js q h
conducted p q g h js sources workers one no_source no_worker =
    let of_sources : h.sources_running ≡ sources - count_by is_last_outcome one.outcomes = one.counted.sources in
    let of_workers : h.workers_running ≡ workers - count_by is_stopped one.outcomes = one.counted.workers in
    record {
      outcomes = one.outcomes;
      pass = one.pass;
      gathered = record { stuck = one.gathered.stuck; same = one.gathered.same };
      sources_ended = omega (arith, of_sources, no_source);
      workers_ended = omega (arith, of_workers, no_worker);
    }

-- the pass was as it is now
pub conducts_from : (p q r : PassView) (g h : Gathering) (js : List Job) → q ≡ p → Conducts q g js r h → Conducts p g js r h
conducts_from p q r g h js same one = record {
  outcomes = one.outcomes;
  pass = one.pass
      ∙ ap (λ x. with_messages x js [] [] one.outcomes) same;
  gathered = one.gathered;
  counted = one.counted;
}

pub conducts_put : (p q r : PassView) (g h : Gathering) (js : List Job) (job : Job) → Conducts p g js q h
    → r ≡ with_job_put q job → Conducts p g (js ++ job ∷ []) r h
conducts_put p q r g h js job one put = record {
  outcomes = one.outcomes;
  pass = put ∙ (ap (λ x. with_job_put x job) one.pass
      ∙ (λ i. record p {
        jobs_put = append_assoc p.jobs_put js (job ∷ []) i;
        jobs_taken = p.jobs_taken ++ [];
        outcomes_put = p.outcomes_put ++ [];
        outcomes_taken = p.outcomes_taken ++ one.outcomes;
      }));
  gathered = one.gathered;
  counted = one.counted;
}

pub drains_none : (names : Names) (p : PassView) (g : Gathering) → Drains names p g p g
drains_none names p g = record { jobs = []; outcomes = []; pass = sym (gaining_none p); gathered = gathers_none g }

pub drains_gathering : (names : Names) (p q r : PassView) (g h k : Gathering) → Drains names p g q h
    → Conducts q h [] r k → Drains names p g r k
drains_gathering names p q r g h k one two =
    let done : List Outcome = map (answer names) one.jobs in
    let more = gaining_more p [] one.jobs done one.outcomes [] [] [] two.outcomes in
    record {
      jobs = one.jobs;
      outcomes = one.outcomes ++ two.outcomes;
      pass = two.pass ∙ (ap (λ x. with_messages x [] [] [] two.outcomes) one.pass
          ∙ (more ∙ (λ i. with_messages p [] (append-nil one.jobs i) (append-nil done i) (one.outcomes ++ two.outcomes))));
      gathered = gathers_more g h k one.outcomes two.outcomes one.gathered two.gathered;
    }

pub drains_answer : (names : Names) (p q r s : PassView) (g h : Gathering) (job : Job) → Drains names p g q h
    → r ≡ with_job_taken q job → s ≡ with_outcome_put r (answer names job) → Drains names p g s h
drains_answer names p q r s g h job one taken put =
    let done : List Outcome = map (answer names) one.jobs in
    let after = put ∙ (ap (λ x. with_outcome_put x (answer names job)) taken
    ∙ ap (λ x. with_outcome_put (with_job_taken x job) (answer names job)) one.pass) in
    let all : (p.outcomes_put ++ done) ++ answer names job ∷ [] ≡ p.outcomes_put ++ map (answer names) (one.jobs ++ job ∷ []) =
    append_assoc p.outcomes_put done (answer names job ∷ [])
    ∙ ap (λ l. p.outcomes_put ++ l) (sym (map-append (answer names) one.jobs (job ∷ []))) in
    record {
      jobs = one.jobs ++ job ∷ [];
      outcomes = one.outcomes;
      pass = after ∙ (λ i. record p {
        jobs_put = p.jobs_put ++ [];
        jobs_taken = append_assoc p.jobs_taken one.jobs
            (job ∷ []) i;
        outcomes_put = all i;
        outcomes_taken = p.outcomes_taken ++ one.outcomes;
      });
      gathered = one.gathered;
    }
