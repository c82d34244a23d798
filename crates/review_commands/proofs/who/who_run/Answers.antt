use Rattle.std.proofs.Common.{None, refl, subst, sym}
use Rattle.run_base.specs.Endings.{writer_states as sent}
use Rattle.review_grants.specs.WhoRows.{sought_by}
use Rattle.review_commands.specs.Body.Surveying.{IsWhoKnown}
use Rattle.review_commands.specs.Surveying.{Inputs, inputs_by, IsNotGranted, IsNotInScope, IsSurveyed, IsTabled, IsWho, table_notices}
use Rattle.review_commands.proofs.TableSteps.{fault-of, not-granted}
use Rattle.review_commands.proofs.WrittenSteps.{ends-mapped, ends-refused}
use Rattle.review_commands.proofs.who.who_run.Goals as goal

pub returns-in-Ok : goal.returns-in-Ok
returns-in-Ok g c =
    let given : Inputs = inputs_by (g.F.Files.held c.args.files.now) c.args.path.now (g.U.Feed.ahead c.args.users.now)
    (g.H.Feed.ahead c.args.hosts.now) in
    let sought = sought_by c.args.sought in
    let s = c.in-Ok.survey in
    let out = sent g.O.Sink.taken g.O.Sink.stalled_writes c.args.out.now c.write_known-status.new.out in
    let err = sent g.E.Sink.taken g.E.Sink.stalled_writes c.args.err.now c.write_known-status.new.err in
    record {
      ends = ends-mapped table_notices (IsWhoKnown s sought) (IsTabled (IsWho sought) given)
          (IsNotInScope s.directory sought.target None) (IsNotGranted given sought.target None) c.write_known-status.result out err
          (λ text notice own good. record {
            policy = s.checked.policy;
            directory = s.directory;
            surveyed = subst (IsSurveyed given s.checked.policy s.directory) (sym good.1) c.in-Ok.ensures.surveyed;
            made = good.0;
          })
          (λ fault not. fault-of given s.checked.policy s.directory sought.target None s.notice.items fault
          c.in-Ok.ensures.surveyed not)
          c.write_known-status.ensures;
    }

pub returns-in-Err : goal.returns-in-Err
returns-in-Err g c =
    let given : Inputs = inputs_by (g.F.Files.held c.args.files.now) c.args.path.now (g.U.Feed.ahead c.args.users.now)
    (g.H.Feed.ahead c.args.hosts.now) in
    let sought = sought_by c.args.sought in
    let out = sent g.O.Sink.taken g.O.Sink.stalled_writes c.args.out.now c.args.out.now in
    let err = sent g.E.Sink.taken g.E.Sink.stalled_writes c.args.err.now c.report_explained.new.err in
    record {
      ends = ends-refused table_notices (IsTabled (IsWho sought) given) (IsNotGranted given sought.target None)
          c.report_explained.result out err c.in-Err.fault (not-granted given sought.target None c.in-Err.fault c.in-Err.ensures.fault)
          refl refl c.report_explained.ensures;
    }
