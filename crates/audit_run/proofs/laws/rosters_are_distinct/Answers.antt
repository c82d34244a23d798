use Rattle.audit_run.proofs.Distinct.{roster-distinct}
use Rattle.audit_run.proofs.laws.rosters_are_distinct.Goals as goal

pub returns : goal.returns
returns c = roster-distinct
