-- The state of a pass of a handoff, and the effect of each call on it. One thread puts and takes
-- messages with one pass.
use Rattle.std.specs.Prelude.{◌≡◌, ℕ, ◌+◌, ◌-◌, ◌≤◌, List, [], ◌∷◌, ◌++◌, length, IsPermutation}
use Rattle.atomic_table.specs.Seated.{TableId}
use Rattle.sudo_match.specs.KnownRows.{KnownRows}
use Rattle.sudo_grammar.specs.declared.policy.Policy.{Policy}
use Rattle.audit_run.specs.declared.message.Names.{Names}
use Rattle.audit_run.specs.declared.message.Job.{Job}
use Rattle.audit_run.specs.declared.message.Outcome.{Outcome}
use Rattle.audit_run.specs.Names.{names_under}

-- the identity of a handoff: the queue of jobs and the queue of outcomes
abbrev pub HandoffId : Type 0
HandoffId = TableId × TableId

-- the handoff, the policy and the directory, the weight, and the messages put and taken, in order;
-- the weights of all passes of a handoff add up to 1,024
pub record PassView : Type 0 where
  pub handoff : HandoffId
  pub names : Names
  pub weight : ℕ
  pub jobs_put : List Job
  pub jobs_taken : List Job
  pub outcomes_put : List Outcome
  pub outcomes_taken : List Outcome

abbrev pub new_pass : HandoffId → Policy → KnownRows → PassView
new_pass handoff policy directory = record {
  handoff = handoff;
  names = names_under policy directory;
  weight = 1024;
  jobs_put = [];
  jobs_taken = [];
  outcomes_put = [];
  outcomes_taken = [];
}

abbrev pub with_job_put : PassView → Job → PassView
with_job_put p job = record p { jobs_put = p.jobs_put ++ job ∷ [] }

abbrev pub with_job_taken : PassView → Job → PassView
with_job_taken p job = record p { jobs_taken = p.jobs_taken ++ job ∷ [] }

abbrev pub with_outcome_put : PassView → Outcome → PassView
with_outcome_put p outcome = record p { outcomes_put = p.outcomes_put ++ outcome ∷ [] }

abbrev pub with_outcome_taken : PassView → Outcome → PassView
with_outcome_taken p outcome = record p { outcomes_taken = p.outcomes_taken ++ outcome ∷ [] }

-- a split moves 1 of the weight to a new pass of the same handoff and names
abbrev pub after_split : PassView → PassView
after_split p = record p { weight = p.weight - 1 }

abbrev pub split_off : PassView → PassView
split_off p = record {
  handoff = p.handoff;
  names = p.names;
  weight = 1;
  jobs_put = [];
  jobs_taken = [];
  outcomes_put = [];
  outcomes_taken = [];
}

-- a join adds the weights and appends the lists of the joined pass
abbrev pub with_joined : PassView → PassView → PassView
with_joined p q = record p {
  weight = p.weight + q.weight;
  jobs_put = p.jobs_put ++ q.jobs_put;
  jobs_taken = p.jobs_taken ++ q.jobs_taken;
  outcomes_put = p.outcomes_put ++ q.outcomes_put;
  outcomes_taken = p.outcomes_taken ++ q.outcomes_taken;
}

-- the pass is the only one of its handoff
abbrev pub IsOnlyPass : PassView → Type 0
IsOnlyPass p = p.weight ≡ 1024

-- each message put was taken or is left, counted as often as it was put; at most 256 are left
abbrev pub JobsLeft : PassView → List Job → Type 0
JobsLeft p left = IsPermutation p.jobs_put (p.jobs_taken ++ left) × (length left ≤ 256)

abbrev pub OutcomesLeft : PassView → List Outcome → Type 0
OutcomesLeft p left = IsPermutation p.outcomes_put (p.outcomes_taken ++ left) × (length left ≤ 256)

-- nothing is left in either queue
abbrev pub IsEmpty : PassView → Type 0
IsEmpty p = JobsLeft p [] × OutcomesLeft p []
