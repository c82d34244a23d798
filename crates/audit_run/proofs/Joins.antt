-- A pass after the passes of threads are joined to it.
use Rattle.std.proofs.Common.{◌≡◌, ℕ, suc, ◌+◌, List, [], ◌∷◌, ◌++◌, flat_map, map, Option, None, Some, Ok, Err, refl}
use Rattle.std.proofs.Common.{sym, ap, ◌∙◌, arith, append_assoc, append-nil, replicate}
use Rattle.std.specs.List.{AllZip}
use Rattle.std.proofs.lemmas.List.{map-append}
use Rattle.std.proofs.lemmas.List.Concat.{flat_map-append}
use Rattle.audit_files.specs.Feeding.{Ahead}
use Rattle.audit_files.specs.Files.{IsRead, IsStatedBy, itself}
use Rattle.audit_files.specs.Requests.{requests_of_file}
use Rattle.audit_files.specs.declared.fault.FileFault.{FileFault}
use Rattle.audit_files.proofs.ReadLemmas.{text-states}
use Rattle.audit_run.specs.IsAuditResult.{NoneRefused}
use Rattle.audit_run.specs.declared.message.Names.{Names}
use Rattle.audit_run.specs.declared.message.Job.{Job}
use Rattle.audit_run.specs.Names.{answer}
use Rattle.audit_run.specs.Passes.{HandoffId, PassView, with_joined}
use Rattle.audit_run.specs.declared.message.Job.TheVariants.{Ask, End, Stop}
use Rattle.audit_run.specs.declared.message.Outcome.{Outcome}
use Rattle.audit_run.specs.Parts.{HasPut, HavePut, Stated, asking, close_jobs, fault_in, jobs_of, put_by_sources}
use Rattle.audit_files.specs.declared.requests.Requests.{Requests}
use Rattle.sudo_match.specs.declared.request.Request.{Request}
use Rattle.audit_run.specs.Body.FreshPasses.{fresh, fresh_with, with_messages}
use Rattle.audit_run.specs.Body.Work.{AreParts, IsPart, IsStatedByText, after_run, after_work, joined_workers, joined_sources, putting_jobs}
use Rattle.sudo_match.specs.KnownRows.{KnownRows}
use Rattle.sudo_grammar.specs.declared.policy.Policy.{Policy}

pub one_worker : (names : Names) (p : PassView) (handoff : HandoffId) (policy : Policy) (directory : KnownRows) (n : ℕ) (old new : List Job)
    → with_joined (joined_workers names p n old) (after_work names (fresh handoff policy directory) new)
    ≡ joined_workers names p (n + 1) (old ++ new)
one_worker names p handoff policy directory n old new =
    let heavier : (p.weight + n) + 1 ≡ p.weight + (n + 1) = omega arith in
    let put : (p.outcomes_put ++ map (answer names) old) ++ map (answer names) new ≡ p.outcomes_put ++ map (answer names) (old ++ new) =
    append_assoc p.outcomes_put (map (answer names) old) (map (answer names) new)
    ∙ ap (λ l. p.outcomes_put ++ l) (sym (map-append (answer names) old new)) in
    λ i. record {
      handoff = p.handoff;
      names = p.names;
      weight = heavier i;
      jobs_put = append-nil p.jobs_put i;
      jobs_taken = append_assoc p.jobs_taken old new i;
      outcomes_put = put i;
      outcomes_taken = append-nil p.outcomes_taken i;
    }

pub one_source : (p : PassView) (handoff : HandoffId) (names : Names) (n : ℕ) (old new : List Job)
    → with_joined (joined_sources p n old) (putting_jobs (fresh_with handoff names) new) ≡ joined_sources p (n + 1) (old ++ new)
one_source p handoff names n old new =
    let heavier : (p.weight + n) + 1 ≡ p.weight + (n + 1) = omega arith in
    λ i. record {
      handoff = p.handoff;
      names = p.names;
      weight = heavier i;
      jobs_put = append_assoc p.jobs_put old new i;
      jobs_taken = append-nil p.jobs_taken i;
      outcomes_put = append-nil p.outcomes_put i;
      outcomes_taken = append-nil p.outcomes_taken i;
    }

-- the bytes ahead of the sources whose threads run, and of those still to be started
pub one_started : {X Y T : Type 0} (readable_bytes : X → T) (tells : Y → T) (hs after : List X) (h : X) (y : Y)
    (ys rest : List Y) (all : List T)
    → after ≡ hs ++ h ∷ [] → readable_bytes h ≡ tells y → ys ≡ y ∷ rest → map readable_bytes hs ++ map tells ys ≡ all
    → map readable_bytes after ++ map tells rest ≡ all
one_started readable_bytes tells hs after h y ys rest all pushed is step was =
    ap (λ l. map readable_bytes l ++ map tells rest) pushed
    ∙ (ap (λ l. l ++ map tells rest) (map-append readable_bytes hs (h ∷ []) ∙ ap (λ x. map readable_bytes hs ++ x ∷ []) is)
    ∙ (append_assoc (map readable_bytes hs) (tells y ∷ []) (map tells rest)
    ∙ (ap (λ l. map readable_bytes hs ++ map tells l) (sym step) ∙ was)))

one_more : {X Y : Type 0} (Is : X → Y → Type 0) (xs : List X) (ys : List Y) (x : X) (y : Y) → AllZip Is xs ys → Is x y
    → AllZip Is (xs ++ x ∷ []) (ys ++ y ∷ [])
one_more Is [] [] x y old new = (new, old)
one_more Is [] (p ∷ ps) x y old new = absurd old
one_more Is (t ∷ ts) [] x y old new = absurd old
one_more Is (t ∷ ts) (p ∷ ps) x y old new = (old.0, one_more Is ts ps x y old.1 new)

-- one more part
pub one_part : (readable_bytes : List (ℕ × Option Ahead)) (parts : List (ℕ × Stated)) (t : ℕ × Option Ahead)
    (part : ℕ × Stated) → AreParts readable_bytes parts → IsPart t part → AreParts (readable_bytes ++ t ∷ []) (parts ++ part ∷ [])
one_part readable_bytes parts t part old new = one_more IsPart readable_bytes parts t part old new

-- the threads that were joined, and those still to be joined
pub told_more : {X T : Type 0} (readable_bytes : X → T) (done all : List T) (h : X) (items rest : List X)
    → items ≡ h ∷ rest → done ++ map readable_bytes items ≡ all → (done ++ readable_bytes h ∷ []) ++ map readable_bytes rest ≡ all
told_more readable_bytes done all h items rest step was =
    append_assoc done (readable_bytes h ∷ []) (map readable_bytes rest) ∙ (ap (λ l. done ++ map readable_bytes l) (sym step) ∙ was)

pub faults_more : (parts : List (ℕ × Stated)) (part : ℕ × Stated) (faults after : List (Option FileFault)) (fault : Option FileFault)
    → after ≡ faults ++ fault ∷ [] → faults ≡ map (λ x. fault_in x.1) parts → fault ≡ fault_in part.1
    → after ≡ map (λ x. fault_in x.1) (parts ++ part ∷ [])
faults_more parts part faults after fault pushed was is = pushed
    ∙ ((λ i. was i ++ is i ∷ []) ∙ sym (map-append (λ (x : ℕ × Stated). fault_in x.1) parts (part ∷ [])))

-- what one more source has put
pub one_put : (parts : List (ℕ × Stated)) (part : ℕ × Stated) (put jobs : List Job) → HavePut parts put
    → HasPut part.0 part.1 jobs → HavePut (parts ++ part ∷ []) (put ++ jobs)
one_put parts part put jobs old new = record {
  by_source = old.by_source ++ jobs ∷ [];
  each = one_more (λ (x : ℕ × Stated) (l : List Job). HasPut x.0 x.1 l) parts old.by_source part jobs old.each new;
  all = (λ i. old.all i ++ sym (append-nil jobs) i) ∙ sym (flat_map-append (λ (l : List Job). l) old.by_source (jobs ∷ []));
}

none_first : (fault : FileFault) (faults : List (Option FileFault)) → NoneRefused (Some fault ∷ faults) → ⊥
none_first fault faults none = none 0 fault refl

none_behind : (first : Option FileFault) (faults : List (Option FileFault)) → NoneRefused (first ∷ faults) → NoneRefused faults
none_behind first faults none = λ index fault there. none (suc index) fault there

-- the sources, of which none is refused, have put the jobs of what they state
put_by_each : (parts : List (ℕ × Stated)) (by_source : List (List Job))
    → NoneRefused (map (λ part. fault_in part.1) parts) → AllZip (λ part jobs. HasPut part.0 part.1 jobs) parts by_source
    → flat_map (λ jobs. jobs) by_source ≡ put_by_sources parts
put_by_each [] [] none each = refl
put_by_each [] (l ∷ ls) none each = absurd each
put_by_each (p ∷ ps) [] none each = absurd each
put_by_each ((owner, Ok requests) ∷ ps) (l ∷ ls) none each = λ i. each.0 i ++ put_by_each ps ls (none_behind None _ none) each.1 i
put_by_each ((owner, Err fault) ∷ ps) (l ∷ ls) none each = absurd (none_first fault _ none)

pub whole_put : (parts : List (ℕ × Stated)) (put : List Job) → NoneRefused (map (λ part. fault_in part.1) parts)
    → HavePut parts put → put ≡ put_by_sources parts
whole_put parts put none have = have.all ∙ put_by_each parts have.by_source none have.each

-- a pass that put some jobs and then others
pub put_after : (p q r : PassView) (jobs more : List Job) → q ≡ putting_jobs p jobs → r ≡ putting_jobs q more
    → r ≡ putting_jobs p (jobs ++ more)
put_after p q r jobs more first second =
    second ∙ ap (λ (x : PassView). putting_jobs x more) first ∙ (λ i. record p { jobs_put = append_assoc p.jobs_put jobs more i })

pub asking-more : (sender : ℕ) (sent : List Request) (r : Request)
    → asking sender sent ++ Ask sender r ∷ [] ≡ asking sender (sent ++ r ∷ [])
asking-more sender sent r = sym (map-append (λ (x : Request). Ask sender x) sent (r ∷ []))

-- the caller's pass after it put the stops and gathered, and the passes of sources and workers were
-- joined
pub ran : (names : Names) (p q r t : PassView) (sources workers : ℕ) (put jobs : List Job) (outcomes : List Outcome)
    → q ≡ with_messages p (replicate workers Stop) [] [] outcomes
    → r ≡ joined_sources q sources put → t ≡ joined_workers names r workers jobs
    → t ≡ after_run names p sources workers (replicate workers Stop ++ put) jobs outcomes
ran names p q r t sources workers put jobs outcomes gathered joined worked =
    worked ∙ ap (λ (x : PassView). joined_workers names x workers jobs) (joined
    ∙ ap (λ (x : PassView). joined_sources x sources put) gathered)
    ∙ (λ i. record {
      handoff = p.handoff;
      names = p.names;
      weight = (p.weight + sources) + workers;
      jobs_put = append_assoc p.jobs_put (replicate workers Stop) put i;
      jobs_taken = append-nil p.jobs_taken i ++ jobs;
      outcomes_put = append-nil p.outcomes_put i ++ map (answer names) jobs;
      outcomes_taken = p.outcomes_taken ++ outcomes;
    })

-- the jobs of some requests and of the rest
pub jobs_behind : (sender : ℕ) (sent : List Request) (rest : Requests)
    → asking sender sent ++ jobs_of sender rest ≡ jobs_of sender (record { list = sent ++ rest.list; close = rest.close })
jobs_behind sender sent rest =
    let end : List Job = close_jobs sender rest.close ++ End sender ∷ [] in
    sym (append_assoc (asking sender sent) (asking sender rest.list) end)
    ∙ ap (λ (l : List Job). l ++ end) (sym (map-append (λ (x : Request). Ask sender x) sent rest.list))

-- what a text states is what its source states
pub text_stated : (readable_bytes : Option Ahead) (text : List ℕ) (state : Stated)
    → IsRead itself readable_bytes (Ok text) → IsStatedByText text state → IsStatedBy requests_of_file readable_bytes state
text_stated readable_bytes text (Ok requests) read states = text-states requests_of_file readable_bytes text (Ok requests) read states tt
text_stated readable_bytes text (Err fault) read states = text-states requests_of_file readable_bytes text (Err fault) read tt states

pub joined_none : (p : PassView) → p ≡ joined_sources p 0 []
joined_none p =
    let same : p.weight ≡ p.weight + 0 = omega arith in
    λ i. record p { weight = same i; jobs_put = sym (append-nil p.jobs_put) i }
