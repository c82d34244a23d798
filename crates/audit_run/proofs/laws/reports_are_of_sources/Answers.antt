use Rattle.audit_run.proofs.HeldRequests.{whole as whole_sources}
use Rattle.audit_run.proofs.RunReports.{reported}
use Rattle.audit_run.specs.Parts.{parts_by_owner}
use Rattle.audit_run.specs.Roster.{roster}
use Rattle.audit_run.proofs.laws.reports_are_of_sources.Goals as goal

pub returns : goal.returns
returns c = record {
  whole = λ names sources states workers outcomes held all ran finished. whole_sources names (roster sources) workers
      (parts_by_owner sources states) outcomes all held ran finished;
  report = λ names sources states workers outcomes held all ran finished. reported names (roster sources) workers
      (parts_by_owner sources states) outcomes all held ran finished;
}
