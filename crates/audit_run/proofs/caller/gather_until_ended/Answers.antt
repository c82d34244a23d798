use Rattle.std.proofs.Common.{[]}
use Rattle.audit_run.proofs.Gains.{conducts_more}
use Rattle.audit_run.proofs.caller.gather_until_ended.Goals as goal

pub loop-preserved : goal.loop-preserved
loop-preserved g c = conducts_more _ _ _ _ _ _ [] [] c.loop.invariant c.gather_or_wait.ensures
