use Rattle.std.proofs.Common.{◌≡◌, None, Option, Some, ap, refl}
use Rattle.std.specs.Prelude.{IsSome, is_some}
use Rattle.run_base.specs.Endings.{writer_states as sent}
use Rattle.sudo_match.specs.KnownRows.{user_named}
use Rattle.sudo_match.specs.declared.people.Person.{Person}
use Rattle.sudo_verdict.specs.Questions.{looked_up}
use Rattle.review_grants.specs.WhoRows.{sought_by}
use Rattle.review_commands.specs.Surveying.{IsNotInScope, table_notices}
use Rattle.review_commands.specs.Body.Surveying.{IsNothing, IsWhoFound, IsWhoKnown}
use Rattle.review_commands.proofs.WrittenSteps.{ends-mapped, ends-refused}
use Rattle.review_commands.proofs.who.write_known.Goals as goal

some_of : (o : Option (Option Person)) (found : Option Person) → o ≡ Some found → IsSome o
some_of o found is = ap is_some is

pub returns-in-Ok : goal.returns-in-Ok
returns-in-Ok g c =
    let s = c.args.survey.now in
    let sought = sought_by c.args.sought in
    let out = sent g.O.Sink.taken g.O.Sink.stalled_writes c.args.out.now c.write_found.new.out in
    let err = sent g.E.Sink.taken g.E.Sink.stalled_writes c.args.err.now c.write_found.new.err in
    ends-mapped table_notices (IsWhoFound s sought) (IsWhoKnown s sought) IsNothing
    (IsNotInScope s.directory sought.target None) c.write_found.result out err
    (λ text notice own good. (
      record {
        known = some_of (looked_up (user_named s.directory) sought.target) _ c.in-Ok.ensures.user;
        text_is = good.0;
        status_is = good.2;
      },
      good.1,
    )) (λ fault none. absurd none) c.write_found.ensures

pub returns-in-Err : goal.returns-in-Err
returns-in-Err g c =
    let s = c.args.survey.now in
    let sought = sought_by c.args.sought in
    let out = sent g.O.Sink.taken g.O.Sink.stalled_writes c.args.out.now c.args.out.now in
    let err = sent g.E.Sink.taken g.E.Sink.stalled_writes c.args.err.now c.report_explained.new.err in
    ends-refused table_notices (IsWhoKnown s sought) (IsNotInScope s.directory sought.target None) c.report_explained.result out err
    c.in-Err.fault c.in-Err.ensures.fault refl refl c.report_explained.ensures
