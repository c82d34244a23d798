-- The answers that are right for the policy and the directory that a pass names: sudoers(5), "the
-- last match is used".
use Rattle.std.specs.Prelude.{◌≡◌, ℕ, ⊤, [], Option, Some, None, refl}
use Rattle.audit_collect.specs.declared.arrival.Answer.{Answer}
use Rattle.audit_collect.specs.declared.arrival.Arrival.{Arrival}
use Rattle.audit_collect.specs.declared.arrival.Arrival.TheVariants.{Reply, Close}
use Rattle.sudo_match.specs.KnownRows.{KnownRows}
use Rattle.sudo_match.specs.declared.request.Request.{Request}
use Rattle.sudo_grammar.specs.declared.policy.Policy.{Policy}
use Rattle.sudo_verdict.specs.Verdicts.{verdict_of}
use Rattle.audit_run.specs.declared.message.Names.{Names}
use Rattle.audit_run.specs.declared.message.Job.{Job}
use Rattle.audit_run.specs.declared.message.Job.TheVariants as job
use Rattle.audit_run.specs.declared.message.Outcome.{Outcome}
use Rattle.audit_run.specs.declared.message.Outcome.TheVariants as outcome

abbrev pub names_under : Policy → KnownRows → Names
names_under policy directory = record { policy = policy; directory = directory }

-- the reply to a request of this sender
abbrev pub answer_to : Names → (sender : ℕ) → Request → Answer
answer_to names sender request = record { sender = sender; request = request; verdict = verdict_of names.policy names.directory request }

-- the outcome that a worker puts for a job
abbrev pub answer : Names → Job → Outcome
answer names (job.Ask sender request) = outcome.Arrived (Reply (answer_to names sender request))
answer names (job.Close sender count) = outcome.Arrived (Close sender count)
answer names (job.End sender) = outcome.End sender
answer names job.Stop = outcome.Stopped

-- a reply has the verdict of the policy and the directory
abbrev pub HasVerdict : Names → Arrival → Type 0
HasVerdict names (Reply a) = a.verdict ≡ verdict_of names.policy names.directory a.request
HasVerdict names (Close sender count) = ⊤

abbrev pub IsRight : Names → Outcome → Type 0
IsRight names (outcome.Arrived arrival) = HasVerdict names arrival
IsRight names (outcome.End sender) = ⊤
IsRight names outcome.Stopped = ⊤

-- only the model of a pass uses these: the names of a queue's first pass are set after it is
-- created
abbrev pub nobody : Names
nobody = record {
  policy = record { files = []; entries = []; placed = refl; unfolded = refl };
  directory = record { people = []; machines = [] };
}

abbrev pub names_in : Option Names → Names
names_in None = nobody
names_in (Some names) = names
