-- Further definitions for passes. Only the proofs of bodies use them.
use Rattle.std.specs.Prelude.{◌≡◌, ℕ, ◌-◌, List, [], ◌++◌}
use Rattle.audit_run.specs.declared.message.Job.{Job}
use Rattle.audit_run.specs.declared.message.Names.{Names}
use Rattle.audit_run.specs.declared.message.Outcome.{Outcome}
use Rattle.audit_run.specs.Names.{names_under}
use Rattle.audit_run.specs.Passes.{HandoffId, PassView}
use Rattle.sudo_match.specs.KnownRows.{KnownRows}
use Rattle.sudo_grammar.specs.declared.policy.Policy.{Policy}

-- a pass that was just split off
abbrev pub fresh_with : HandoffId → Names → PassView
fresh_with handoff names = record {
  handoff = handoff;
  names = names;
  weight = 1;
  jobs_put = [];
  jobs_taken = [];
  outcomes_put = [];
  outcomes_taken = [];
}

abbrev pub fresh : HandoffId → Policy → KnownRows → PassView
fresh handoff policy directory = fresh_with handoff (names_under policy directory)

abbrev pub IsFresh : HandoffId → PassView → Type 0
IsFresh handoff p = p ≡ fresh_with handoff p.names

-- the pass after this many others were split off
abbrev pub after_splits : PassView → ℕ → PassView
after_splits p n = record p { weight = p.weight - n }

-- the same pass with more put and taken
abbrev pub with_messages : PassView → List Job → List Job → List Outcome → List Outcome → PassView
with_messages p jobs_put jobs_taken outcomes_put outcomes_taken = record p {
  jobs_put = p.jobs_put ++ jobs_put;
  jobs_taken = p.jobs_taken ++ jobs_taken;
  outcomes_put = p.outcomes_put ++ outcomes_put;
  outcomes_taken = p.outcomes_taken ++ outcomes_taken;
}
