use Rattle.std.proofs.Common.{◌≡◌, ◌+◌, [], rules, length, map, ap, ◌∙◌, subst, arith, vec_len}
use Rattle.std.proofs.lemmas.List.{length-map}
use Rattle.audit_run.specs.Names.{names_under}
use Rattle.audit_run.specs.Body.Concluded.{Concludes}
use Rattle.audit_run.specs.Body.Gathered.{collector_after}
use Rattle.audit_run.specs.Body.FreshPasses.{after_splits}
use Rattle.audit_run.specs.Body.Run.{HasRun}
use Rattle.audit_run.specs.Body.Work.{part_ahead}
use Rattle.audit_run.proofs.AllJobs.{faults_long, settled}
use Rattle.audit_run.proofs.auditing.audit_registered.Goals as goal

pub conclude-requires : goal.conclude-requires
conclude-requires g c =
    let run = c.run_scoped-mine.ensures (search rules) in
    let long = faults_long _ _ _ _ _ run in
    let parts = length-map c.args.registered.parts.items (λ p. part_ahead p.owner (g.F.Feed.ahead p.reader)) in
    let parts_long : length c.args.registered.parts.items ≡ vec_len c.args.registered.parts = search rules in
    (ap length c.deref.ensures.value ∙ omega (arith, long, parts, parts_long, c.requires.lengths.0), c.requires.lengths.1)

pub returns : goal.returns
returns g c =
    let prepared = c.in_ok-prepared.ensures in
    let policy = c.args.shared.policy.now in
    let directory = c.args.shared.directory.now in
    let names = c.args.registered.names.items in
    let parts = c.args.registered.parts.items in
    let readable_bytes = map (λ p. g.F.Feed.ahead p.reader) parts in
    let run = subst (λ t. HasRun (names_under policy directory) t (vec_len c.args.registered.parts)
    c.in_ok-prepared.prepared c.run_scoped-mine.result) c.requires.parts (c.run_scoped-mine.ensures (search rules)) in
    let answers = subst (λ f. Concludes names f
    (collector_after c.drain.new.gathering.collector c.drain.new.gathering.refused []) c.conclude.result)
    c.deref.ensures.value c.conclude.ensures in
    let names_long : length names ≡ vec_len c.args.registered.names = search rules in
    let parts_long : length parts ≡ vec_len c.args.registered.parts = search rules in
    let ahead_long = length-map parts (λ p. g.F.Feed.ahead p.reader) in
    let light = prepared.passes.1 ∙ ap (λ n. after_splits c.args.pass.now ((n + c.args.workers) + 1)) c.len-2.ensures in
    settled (names_under policy directory) names readable_bytes (vec_len c.args.registered.parts) c.args.workers
    c.args.pass.now _ _ _ c.in_ok-prepared.prepared c.run_scoped-mine.result c.drain.new.gathering _
    (omega (arith, names_long, c.requires.lengths.1)) c.requires.collector.1
    (omega (arith, names_long, c.requires.lengths.0)) (omega (arith, parts_long, ahead_long))
    c.requires.pass.0 c.requires.pass.1 (omega (arith, c.requires.lengths.0, c.requires.lengths.1, c.requires.workers))
    prepared.workers (prepared.gathering.0 ∙ c.requires.collector.0) prepared.gathering.1 prepared.passes.0 light
    run c.join.ensures c.drain.ensures.taken c.drain.ensures.left answers
