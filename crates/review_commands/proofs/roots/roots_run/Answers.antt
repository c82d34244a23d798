use Rattle.run_base.specs.Endings.{writer_states as sent}
use Rattle.review_commands.specs.RootRows.{AreRootRows}
use Rattle.review_commands.specs.Surveying.{Inputs, inputs_by, IsNotSurveyed, IsTabled, table_notices}
use Rattle.review_commands.proofs.EndingSteps.{run_noted}
use Rattle.review_commands.proofs.roots.roots_run.Goals as goal

pub returns : goal.returns
returns g c =
    let given : Inputs = inputs_by (g.F.Files.held c.args.files.now) c.args.path.now (g.U.Feed.ahead c.args.users.now)
    (g.H.Feed.ahead c.args.hosts.now) in
    let out = sent g.O.Sink.taken g.O.Sink.stalled_writes c.args.out.now c.end_noted.new.out in
    let err = sent g.E.Sink.taken g.E.Sink.stalled_writes c.args.err.now c.end_noted.new.err in
    record {
      ends = run_noted table_notices (IsTabled (AreRootRows c.args.all) given) (IsNotSurveyed given) c.roots_output-ended.result
          c.end_noted.result out err c.roots_output-ended.ensures.printed c.roots_output-ended.ensures.fault c.end_noted.ensures;
    }
