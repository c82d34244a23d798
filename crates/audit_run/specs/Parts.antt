-- The content of the sources of an audit, and the jobs for it.
use Rattle.std.specs.Prelude.{◌≡◌, ℕ, List, [], ◌∷◌, ◌++◌, Option, Some, None, Result, Ok, Err, flat_map, map, replicate}
use Rattle.std.specs.List.{AllZip, zip}
use Rattle.audit_files.specs.Feeding.{Ahead}
use Rattle.audit_files.specs.Files.{IsStatedBy}
use Rattle.audit_files.specs.Requests.{requests_of_file}
use Rattle.audit_files.specs.declared.fault.FileFault.{FileFault}
use Rattle.audit_files.specs.declared.requests.Requests.{Requests}
use Rattle.audit_run.specs.declared.message.Job.{Job}
use Rattle.audit_run.specs.declared.message.Job.TheVariants.{Ask, Close, End, Stop}
use Rattle.audit_run.specs.Roster.{owners}
use Rattle.sudo_match.specs.declared.request.Request.{Request}

-- the content of a source: the requests and the close count of its file, or its fault
abbrev pub Stated : Type 0
Stated = Result Requests FileFault

-- the content of sources, from the bytes ahead of their readers; if a reader specifies none, the
-- content of some bytes
abbrev pub AreRead : List (Option Ahead) → List Stated → Type 0
AreRead readable_bytes states = AllZip (IsStatedBy requests_of_file) readable_bytes states

-- each source by its owner, the index of its sender in the roster, and by its content
abbrev pub parts_by_owner : List (List ℕ) → List Stated → List (ℕ × Stated)
parts_by_owner names states = zip (owners names) states

abbrev pub close_jobs : ℕ → Option ℕ → List Job
close_jobs sender None = []
close_jobs sender (Some count) = Close sender count ∷ []

abbrev pub asking : ℕ → List Request → List Job
asking sender requests = map (λ r. Ask sender r) requests

-- the jobs of a source: its requests in order, its close mark if it has one, and its end
abbrev pub jobs_of : ℕ → Requests → List Job
jobs_of sender requests = asking sender requests.list ++ (close_jobs sender requests.close ++ End sender ∷ [])

-- a source has put these jobs: those of what it states, or some requests and its end if it is
-- refused
abbrev pub HasPut : ℕ → Stated → List Job → Type 0
HasPut sender (Ok requests) jobs = jobs ≡ jobs_of sender requests
HasPut sender (Err fault) jobs = (sent : List Request) × (jobs ≡ asking sender sent ++ End sender ∷ [])

-- each source has put its jobs; `put` has those of all sources, one source after the other
pub record HavePut (parts : List (ℕ × Stated)) (put : List Job) : Type 0 where
  pub by_source : List (List Job)
  pub each : AllZip (λ part jobs. HasPut part.0 part.1 jobs) parts by_source
  pub all : put ≡ flat_map (λ jobs. jobs) by_source

-- the jobs of a source; what a refused source puts before its end counts for nothing, and is left out
abbrev pub jobs_or_end : ℕ → Stated → List Job
jobs_or_end sender (Ok requests) = jobs_of sender requests
jobs_or_end sender (Err fault) = End sender ∷ []

abbrev pub put_by_sources : List (ℕ × Stated) → List Job
put_by_sources parts = flat_map (λ part. jobs_or_end part.0 part.1) parts

-- all jobs of a run: one `Stop` for each worker, and the jobs of the sources
abbrev pub run_jobs : ℕ → List (ℕ × Stated) → List Job
run_jobs workers parts = (replicate workers Stop) ++ put_by_sources parts

abbrev pub fault_in : Stated → Option FileFault
fault_in (Ok requests) = None
fault_in (Err fault) = Some fault

-- the fault of each source, if it is refused
abbrev pub faults_of : List Stated → List (Option FileFault)
faults_of states = map fault_in states
