-- The conditions and the effect of a run. Only the proofs of bodies use these definitions.
use Rattle.std.specs.Prelude.{◌≡◌, ℕ, ◌+◌, ◌≤◌, ◌++◌, List, [], All, Option, map, replicate, vec_len, vec_capacity}
use Rattle.audit_files.specs.Feeding.{Ahead}
use Rattle.audit_run.specs.declared.message.Job.{Job}
use Rattle.audit_run.specs.declared.message.Job.TheVariants.{Stop}
use Rattle.audit_run.specs.declared.message.Names.{Names}
use Rattle.audit_run.specs.declared.message.Outcome.{Outcome}
use Rattle.audit_run.specs.Passes.{HandoffId}
use Rattle.audit_run.specs.declared.prepared.PreparedRun.{PreparedRun}
use Rattle.audit_run.specs.declared.prepared.EndedRun.{EndedRun}
use Rattle.audit_run.specs.Body.Gathered.{Gathers}
use Rattle.audit_run.specs.Parts.{HavePut, Stated, fault_in}
use Rattle.audit_run.specs.Body.FreshPasses.{IsFresh, fresh}
use Rattle.audit_run.specs.Body.Work.{AreParts, after_run}
use Rattle.sudo_match.specs.KnownRows.{KnownRows}
use Rattle.sudo_grammar.specs.declared.policy.Policy.{Policy}

-- each thread of this many sources and of the workers has a pass of the handoff, and there is
-- capacity for their results
pub record IsReady (handoff : HandoffId) (policy : Policy) (directory : KnownRows) (sources : ℕ) (prepared : PreparedRun) : Type 0 where
  pub pass : prepared.pass.handoff ≡ handoff
  pub source_passes : All (λ p. IsFresh handoff p) prepared.source_passes.items
  pub one_each : vec_len prepared.source_passes ≡ sources
  pub worker_passes : All (λ p. p ≡ fresh handoff policy directory) prepared.worker_passes.items
  pub no_workers : vec_len prepared.workers ≡ 0
  pub room_for_workers : vec_len prepared.worker_passes ≤ vec_capacity prepared.workers
  pub no_faults : prepared.faults.items ≡ []
  pub room_for_faults : vec_len prepared.faults + sources ≤ vec_capacity prepared.faults

-- all threads ran: the sources put jobs, the workers put the answer of each job that they took, and
-- the caller gathered the outcomes that it took
pub record HasRun (names : Names) (readable_bytes : List (ℕ × Option Ahead)) (sources : ℕ) (prepared : PreparedRun)
    (ended : EndedRun) : Type 0 where
  pub parts : List (ℕ × Stated)
  pub read : AreParts readable_bytes parts
  pub put : List Job
  pub have_put : HavePut parts put
  pub taken : List Job
  pub gathered : List Outcome
  pub pass : ended.pass ≡ after_run names prepared.pass sources (vec_len prepared.worker_passes)
      (replicate (vec_len prepared.worker_passes) Stop ++ put) taken gathered
  pub gathers : Gathers prepared.gathering gathered ended.gathering
  pub faults : ended.faults.items ≡ map (λ part. fault_in part.1) parts
