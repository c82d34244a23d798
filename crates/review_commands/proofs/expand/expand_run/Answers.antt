use Rattle.run_base.specs.Endings.{writer_states as sent}
use Rattle.audit_commands.specs.Expanding.{IsNotExpanded}
use Rattle.audit_commands.proofs.Statuses.{expansion_most}
use Rattle.review_commands.specs.Expanding.{expand_notices, IsShown}
use Rattle.review_commands.proofs.EndingSteps.{run_noted}
use Rattle.review_commands.proofs.ExpandSteps.{noted_most, shown_most}
use Rattle.review_commands.proofs.expand.expand_run.Goals as goal

pub returns : goal.returns
returns g c =
    let held = g.F.Files.held c.args.files.now in
    let path = c.args.path.now in
    let name = c.args.name.now in
    let out = sent g.O.Sink.taken g.O.Sink.stalled_writes c.args.out.now c.end_noted.new.out in
    let err = sent g.E.Sink.taken g.E.Sink.stalled_writes c.args.err.now c.end_noted.new.err in
    let ends =
    run_noted expand_notices (IsShown held path c.args.kind name) (IsNotExpanded held path c.args.kind name)
    c.expand_output-ended.result c.end_noted.result out err
    c.expand_output-ended.ensures.printed c.expand_output-ended.ensures.fault c.end_noted.ensures in
    record {
      most = noted_most expand_notices (IsShown held path c.args.kind name) (IsNotExpanded held path c.args.kind name)
          c.end_noted.result out err (shown_most held path c.args.kind name) expansion_most ends;
      ends = ends;
    }
