use Rattle.sudo_laws.proofs.ReportOutcomes.{report_or_fault}
use Rattle.sudo_laws.proofs.existence.arrivals_have_a_report_or_a_fault.Goals as goal

pub returns : goal.returns
returns c = report_or_fault
