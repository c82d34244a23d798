use Rattle.audit_collect.proofs.CompleteLaw.{finished_report}
use Rattle.audit_collect.proofs.laws.finished_is_reported.Goals as goal

pub returns : goal.returns
returns c = λ names arrivals held ran finished. finished_report names arrivals held ran finished
