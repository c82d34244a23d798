use Rattle.audit_run.proofs.Rerun.{no_fault_of_both, no_fault_of_first, no_fault_of_second, one_report_of_both}
use Rattle.audit_run.proofs.laws.audits_of_shards_join.Goals as goal

pub returns : goal.returns
returns c = record {
  report = λ names first second report other whole apart is also returned. one_report_of_both names first second apart
      report other is also whole returned;
  no_fault = λ names first second report other fault apart is also returned. no_fault_of_both names first second apart
      report other is also fault returned;
  first_refused = λ names first second fault whole apart returned of is. of
      (no_fault_of_first names first second apart whole is fault returned);
  second_refused = λ names first second fault whole apart returned of is. of
      (no_fault_of_second names first second apart whole is fault returned);
}
