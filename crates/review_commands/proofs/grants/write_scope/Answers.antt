use Rattle.std.proofs.Common.{option_copied, refl}
use Rattle.run_base.specs.Endings.{writer_states as sent}
use Rattle.review_grants.specs.GrantRows.{grants_text}
use Rattle.review_commands.specs.Body.Surveying.{AreScopedGrants, IsNothing}
use Rattle.review_commands.specs.Surveying.{table_notices}
use Rattle.review_commands.proofs.WrittenSteps.{ends-part}
use Rattle.review_commands.proofs.grants.write_scope.Goals as goal

pub returns-in-Err : goal.returns-in-Err
returns-in-Err g c =
    let s = c.args.survey.now in
    let person = option_copied c.args.scope.user in
    let machine = option_copied c.args.scope.host in
    let out = sent g.O.Sink.taken g.O.Sink.stalled_writes c.args.out.now c.write_grants.new.out in
    let err = sent g.E.Sink.taken g.E.Sink.stalled_writes c.args.err.now c.report_stop.new.err in
    ends-part table_notices (AreScopedGrants s person machine) IsNothing c.report_stop.result out err
    c.in-Err.stopped (grants_text s.checked.policy s.directory person machine) s.notice.items 0
    (refl, refl, refl) c.in-Err.ensures.stopped c.in-Err.ensures.failures c.report_stop.ensures
