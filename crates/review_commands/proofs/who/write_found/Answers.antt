use Rattle.std.proofs.Common.{refl}
use Rattle.run_base.specs.Endings.{writer_states as sent}
use Rattle.review_grants.specs.WhoRows.{sought_by, who_text}
use Rattle.review_commands.specs.Body.Surveying.{IsNothing, IsWhoFound}
use Rattle.review_commands.specs.Surveying.{table_notices}
use Rattle.review_commands.proofs.WrittenSteps.{ends-part}
use Rattle.review_commands.proofs.who.write_found.Goals as goal

pub returns-in-Err : goal.returns-in-Err
returns-in-Err g c =
    let s = c.args.survey.now in
    let sought = sought_by c.args.sought in
    let out = sent g.O.Sink.taken g.O.Sink.stalled_writes c.args.out.now c.write_who.new.out in
    let err = sent g.E.Sink.taken g.E.Sink.stalled_writes c.args.err.now c.report_stop.new.err in
    ends-part table_notices (IsWhoFound s sought) IsNothing c.report_stop.result out err
    c.in-Err.stopped (who_text s.checked.policy s.directory sought) s.notice.items 0
    (refl, refl, refl) c.in-Err.ensures.stopped c.in-Err.ensures.failures c.report_stop.ensures
