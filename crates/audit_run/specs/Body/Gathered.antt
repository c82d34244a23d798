-- The part of the caller's thread: it takes outcomes and offers each arrival to one collector, up
-- to the first refusal. Only the proofs of bodies use these definitions.
use Rattle.std.specs.Prelude.{◌≡◌, ◌⊎◌, ℕ, ◌-◌, ◌≤◌, Bool, true, false, List, [], ◌++◌, map, count_by, Option, Some, None, Result, Err}
use Rattle.audit_collect.specs.SenderState.{SenderState, after}
use Rattle.audit_collect.specs.declared.arrival.Arrival.{Arrival}
use Rattle.audit_collect.specs.declared.fault.Refused.{Refused}
use Rattle.audit_collect.specs.declared.fault.Refused.TheVariants.{Memory}
use Rattle.audit_run.specs.declared.message.Job.{Job}
use Rattle.audit_run.specs.declared.message.Names.{Names}
use Rattle.audit_run.specs.declared.message.Outcome.{Outcome}
use Rattle.audit_run.specs.declared.message.Outcome.TheVariants.{Arrived, End, Stopped}
use Rattle.audit_run.specs.Names.{answer}
use Rattle.audit_run.specs.Passes.{PassView}
use Rattle.audit_run.specs.declared.gather.Awaited.{Awaited}
use Rattle.audit_run.specs.declared.gather.Awaited.TheVariants.{Sources, Workers}
use Rattle.audit_run.specs.declared.gather.Gathering.{Gathering}
use Rattle.audit_run.specs.Arrivals.{arrivals_of}
use Rattle.audit_run.specs.Body.FreshPasses.{with_messages}

-- the state of a collector after these arrivals, from this state or this refusal
abbrev pub collector_after : List SenderState → Option Refused → List Arrival → Result (List SenderState) Refused
collector_after held None rest = after held rest
collector_after held (Some why) rest = Err why

abbrev pub RanOutOfMemory : Gathering → Type 0
RanOutOfMemory g = g.refused ≡ Some Memory

-- `h` is `g` after these outcomes were taken, or memory ran out
pub record Gathers (g : Gathering) (outcomes : List Outcome) (h : Gathering) : Type 0 where
  pub stuck : RanOutOfMemory g → RanOutOfMemory h
  pub same : RanOutOfMemory h ⊎ ((rest : List Arrival)
      → collector_after g.collector g.refused (arrivals_of outcomes ++ rest) ≡ collector_after h.collector h.refused rest)

-- whether an outcome is the last of a source
abbrev pub is_last_outcome : Outcome → Bool
is_last_outcome (Arrived arrival) = false
is_last_outcome (End sender) = true
is_last_outcome Stopped = false

-- whether an outcome is the last of a worker
abbrev pub is_stopped : Outcome → Bool
is_stopped (Arrived arrival) = false
is_stopped (End sender) = false
is_stopped Stopped = true

-- the number of awaited threads that still run
abbrev pub running_of : Awaited → Gathering → ℕ
running_of Sources g = g.sources_running
running_of Workers g = g.workers_running

-- each source and each worker whose last outcome is among these no longer runs
pub record Counts (g : Gathering) (outcomes : List Outcome) (h : Gathering) : Type 0 where
  pub sources : h.sources_running ≡ g.sources_running - count_by is_last_outcome outcomes
  pub workers : h.workers_running ≡ g.workers_running - count_by is_stopped outcomes

pub record HasSameCounts (g h : Gathering) : Type 0 where
  pub sources : h.sources_running ≡ g.sources_running
  pub workers : h.workers_running ≡ g.workers_running

-- the pass has put these jobs and taken outcomes, and these were gathered
pub record Conducts (p : PassView) (g : Gathering) (jobs : List Job) (q : PassView) (h : Gathering) : Type 0 where
  pub outcomes : List Outcome
  pub pass : q ≡ with_messages p jobs [] [] outcomes
  pub gathered : Gathers g outcomes h
  pub counted : Counts g outcomes h

-- the same, until this many sources and this many workers have ended: the last outcome of each is
-- among those that were taken
pub record HasGatheredAll (p : PassView) (g : Gathering) (sources workers : ℕ) (jobs : List Job) (q : PassView)
    (h : Gathering) : Type 0 where
  pub outcomes : List Outcome
  pub pass : q ≡ with_messages p jobs [] [] outcomes
  pub gathered : Gathers g outcomes h
  pub sources_ended : sources ≤ count_by is_last_outcome outcomes
  pub workers_ended : workers ≤ count_by is_stopped outcomes

-- the pass has taken jobs, put their answers, and taken outcomes, and these were gathered
pub record Drains (names : Names) (p : PassView) (g : Gathering) (q : PassView) (h : Gathering) : Type 0 where
  pub jobs : List Job
  pub outcomes : List Outcome
  pub pass : q ≡ with_messages p [] jobs (map (answer names) jobs) outcomes
  pub gathered : Gathers g outcomes h
