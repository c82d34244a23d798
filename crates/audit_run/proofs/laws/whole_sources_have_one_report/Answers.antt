use Rattle.std.proofs.Common.{length}
use Rattle.audit_run.proofs.WholeSources.{one_report, whole_not_lacking, whole_not_refused}
use Rattle.audit_run.proofs.SourceContent.{all_owned}
use Rattle.audit_run.specs.Parts.{parts_by_owner}
use Rattle.audit_run.specs.Roster.{roster}
use Rattle.audit_run.proofs.laws.whole_sources_have_one_report.Goals as goal

pub returns : goal.returns
returns c = record {
  not_refused = λ sources states why whole refused. whole_not_refused (length (roster sources))
      (parts_by_owner sources states) why (all_owned sources states) whole refused;
  not_lacking = λ sources states what whole lack. whole_not_lacking (length (roster sources))
      (parts_by_owner sources states) what whole lack;
  one = λ names sources states report other whole is_report is_other. one_report names (roster sources)
      (parts_by_owner sources states) whole report other is_report is_other;
}
