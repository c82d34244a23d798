use Rattle.audit_run.proofs.HeldRequests.{lacking}
use Rattle.audit_run.specs.Parts.{parts_by_owner}
use Rattle.audit_run.specs.Roster.{roster}
use Rattle.audit_run.proofs.laws.lacks_are_of_sources.Goals as goal

pub returns : goal.returns
returns c = λ names sources states workers outcomes held what all ran first.
    lacking names (roster sources) workers (parts_by_owner sources states) outcomes all held ran what first
