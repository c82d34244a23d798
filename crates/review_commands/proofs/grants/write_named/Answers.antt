use Rattle.std.proofs.Common.{option_copied, refl}
use Rattle.run_base.specs.Endings.{writer_states as sent}
use Rattle.review_commands.specs.Body.Surveying.{AreNamedGrants, AreScopedGrants, IsNothing}
use Rattle.review_commands.specs.Surveying.{IsNotInScope, table_notices}
use Rattle.review_commands.proofs.WrittenSteps.{ends-mapped, ends-refused}
use Rattle.review_commands.proofs.grants.write_named.Goals as goal

pub returns-in-Ok : goal.returns-in-Ok
returns-in-Ok g c =
    let s = c.args.survey.now in
    let person = option_copied c.in-Ok.scope.user in
    let machine = option_copied c.in-Ok.scope.host in
    let user = option_copied c.args.names.user in
    let host = option_copied c.args.names.host in
    let out = sent g.O.Sink.taken g.O.Sink.stalled_writes c.args.out.now c.write_scope.new.out in
    let err = sent g.E.Sink.taken g.E.Sink.stalled_writes c.args.err.now c.write_scope.new.err in
    ends-mapped table_notices (AreScopedGrants s person machine) (AreNamedGrants s user host) IsNothing
    (IsNotInScope s.directory user host) c.write_scope.result out err
    (λ text notice own good. (
      record {
        person = person;
        machine = machine;
        is_person = c.in-Ok.ensures.user;
        is_machine = c.in-Ok.ensures.host;
        text_is = good.0;
        status_is = good.2;
      },
      good.1,
    )) (λ fault none. absurd none) c.write_scope.ensures

pub returns-in-Err : goal.returns-in-Err
returns-in-Err g c =
    let s = c.args.survey.now in
    let user = option_copied c.args.names.user in
    let host = option_copied c.args.names.host in
    let out = sent g.O.Sink.taken g.O.Sink.stalled_writes c.args.out.now c.args.out.now in
    let err = sent g.E.Sink.taken g.E.Sink.stalled_writes c.args.err.now c.report_explained.new.err in
    ends-refused table_notices (AreNamedGrants s user host) (IsNotInScope s.directory user host) c.report_explained.result out err
    c.in-Err.fault c.in-Err.ensures.fault refl refl c.report_explained.ensures
