-- The effect of the threads of an audit on their passes. Only the proofs of bodies use these
-- definitions.
use Rattle.std.specs.Prelude.{◌≡◌, ℕ, ◌+◌, Bool, true, false, List, ◌++◌, Option, Ok, Err, map}
use Rattle.std.specs.List.{AllZip}
use Rattle.audit_files.specs.Faults.{IsNotOutOfMemory}
use Rattle.audit_files.specs.Feeding.{Ahead}
use Rattle.audit_files.specs.Files.{IsStatedBy}
use Rattle.audit_files.specs.Requests.{requests_of_file}
use Rattle.audit_run.specs.declared.message.Job.{Job}
use Rattle.audit_run.specs.declared.message.Job.TheVariants.{Stop}
use Rattle.audit_run.specs.declared.message.Names.{Names}
use Rattle.audit_run.specs.declared.message.Outcome.{Outcome}
use Rattle.audit_run.specs.Names.{answer}
use Rattle.audit_run.specs.Passes.{PassView}
use Rattle.audit_run.specs.declared.readers.Sent.{Sent}
use Rattle.audit_run.specs.Parts.{HasPut, Stated, fault_in}

-- the pass after these jobs were taken and their answers put
abbrev pub after_work : Names → PassView → List Job → PassView
after_work names p jobs = record p { jobs_taken = p.jobs_taken ++ jobs; outcomes_put = p.outcomes_put ++ map (answer names) jobs }

-- a job is not `Stop`
abbrev pub is_not_stop : Job → Bool
is_not_stop Stop = false
is_not_stop job = true

-- a worker's pass after its thread: it has put the answer of each job that it took, once
abbrev pub HasWorked : PassView → PassView → Type 0
HasWorked p q = (jobs : List Job) × (q ≡ after_work p.names p jobs)

-- the pass after these jobs were put
abbrev pub putting_jobs : PassView → List Job → PassView
putting_jobs p jobs = record p { jobs_put = p.jobs_put ++ jobs }

-- the result of a source's thread: what the source states, and so its fault, and the jobs that were
-- put
pub record HasSentState (before : PassView) (owner : ℕ) (r : Sent) (state : Stated) : Type 0 where
  pub jobs : List Job
  pub pass : r.pass ≡ putting_jobs before jobs
  pub put : HasPut owner state jobs
  pub fault : r.fault ≡ fault_in state

-- the text of a source states this, but for out of memory
abbrev pub IsStatedByText : List ℕ → Stated → Type 0
IsStatedByText text (Ok requests) = requests_of_file text ≡ Ok requests
IsStatedByText text (Err fault) = IsNotOutOfMemory fault → requests_of_file text ≡ Err fault

abbrev pub HasSentText : List ℕ → PassView → ℕ → Sent → Type 0
HasSentText text before owner r = (state : Stated) × IsStatedByText text state × HasSentState before owner r state

abbrev pub HasSent : Option Ahead → PassView → ℕ → Sent → Type 0
HasSent readable_bytes before owner r = (state : Stated) × IsStatedBy requests_of_file readable_bytes state
    × HasSentState before owner r state

-- a source by its owner and by the bytes ahead of its reader
abbrev pub part_ahead : ℕ → Option Ahead → ℕ × Option Ahead
part_ahead owner readable_bytes = (owner, readable_bytes)

-- the same source, by what it states
abbrev pub IsPart : (ℕ × Option Ahead) → (ℕ × Stated) → Type 0
IsPart readable_bytes part = (part.0 ≡ readable_bytes.0) × IsStatedBy requests_of_file readable_bytes.1 part.1

abbrev pub AreParts : List (ℕ × Option Ahead) → List (ℕ × Stated) → Type 0
AreParts readable_bytes parts = AllZip IsPart readable_bytes parts

-- the pass after the passes of workers that took these jobs were joined
abbrev pub joined_workers : Names → PassView → ℕ → List Job → PassView
joined_workers names p workers jobs = record p {
  weight = p.weight + workers;
  jobs_taken = p.jobs_taken ++ jobs;
  outcomes_put = p.outcomes_put ++ map (answer names) jobs;
}

-- the pass after the passes of sources that put these jobs were joined
abbrev pub joined_sources : PassView → ℕ → List Job → PassView
joined_sources p sources jobs = record p { weight = p.weight + sources; jobs_put = p.jobs_put ++ jobs }

-- the caller's pass after a run: its stops were put, and each source's and each worker's pass was
-- joined
abbrev pub after_run : Names → PassView → ℕ → ℕ → List Job → List Job → List Outcome → PassView
after_run names p sources workers put taken gathered = record p {
  weight = (p.weight + sources) + workers;
  jobs_put = p.jobs_put ++ put;
  jobs_taken = p.jobs_taken ++ taken;
  outcomes_put = p.outcomes_put ++ map (answer names) taken;
  outcomes_taken = p.outcomes_taken ++ gathered;
}
