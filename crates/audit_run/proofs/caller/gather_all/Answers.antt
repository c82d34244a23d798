use Rattle.std.proofs.Common.{◌≡◌, [], replicate, subst, append-nil, arith}
use Rattle.audit_run.specs.declared.message.Job.TheVariants as job
use Rattle.audit_run.specs.Body.Gathered.{HasGatheredAll}
use Rattle.audit_run.proofs.Gains.{conducted, conducts_more}
use Rattle.audit_run.proofs.caller.gather_all.Goals as goal

pub returns : goal.returns
returns g c =
    let stops = replicate c.args.workers job.Stop in
    let sources = c.gather_until_ended.ensures.ended in
    let stopping = c.put_stops.ensures.counted.sources in
    let waiting = c.gather_until_ended-2.ensures.taken.counted.sources in
    let no_source : c.gather_until_ended-2.new.gathering.sources_running ≡ 0 = omega (arith, sources, stopping, waiting) in
    subst (λ js. HasGatheredAll c.args.pass.now c.args.gathering.now c.args.sources c.args.workers js
    c.gather_until_ended-2.new.pass c.gather_until_ended-2.new.gathering) (append-nil stops)
    (conducted _ _ c.args.gathering.now _ _ c.args.sources c.args.workers
    (conducts_more _ _ _ _ _ _ stops [] (conducts_more _ _ _ _ _ _ [] stops c.gather_until_ended.ensures.taken
    c.put_stops.ensures) c.gather_until_ended-2.ensures.taken)
    no_source c.gather_until_ended-2.ensures.ended)
