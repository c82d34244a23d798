use Rattle.sudo_laws.proofs.ReportLemmas.{report_read}
use Rattle.sudo_laws.proofs.reports.reports_read_back.Goals as goal

pub returns : goal.returns
returns c = report_read
