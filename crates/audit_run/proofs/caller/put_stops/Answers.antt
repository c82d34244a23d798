use Rattle.std.proofs.Common.{[], ◌∷◌, replicate, subst}
use Rattle.std.proofs.lemmas.List.{replicate_more}
use Rattle.audit_run.specs.declared.message.Job.TheVariants as job
use Rattle.audit_run.specs.Body.Gathered.{Conducts}
use Rattle.audit_run.proofs.Gains.{conducts_none, conducts_more}
use Rattle.audit_run.proofs.caller.put_stops.Goals as goal

pub loop-stopped-init : goal.loop-stopped-init
loop-stopped-init g c = conducts_none _ _

pub loop-stopped-preserved : goal.loop-stopped-preserved
loop-stopped-preserved g c =
    subst (λ js. Conducts c.args.pass.now c.args.gathering.now js c.put_stop.new.pass c.put_stop.new.gathering)
    (replicate_more c.loop-stopped._stopped job.Stop)
    (conducts_more _ _ _ _ _ _ (replicate c.loop-stopped._stopped job.Stop) (job.Stop ∷ []) c.loop-stopped.invariant c.put_stop.ensures)
