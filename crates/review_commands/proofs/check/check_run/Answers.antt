use Rattle.run_base.specs.Endings.{writer_states as sent}
use Rattle.run_base.specs.Loading.{IsNoPolicy}
use Rattle.run_base.proofs.EndingLemmas.{run_ends}
use Rattle.audit_commands.specs.Examining.{IsExamined}
use Rattle.review_commands.specs.CautionLines.{policy_notices}
use Rattle.review_commands.proofs.check.check_run.Goals as goal

pub returns : goal.returns
returns g c =
    let held = g.F.Files.held c.args.files.now in
    let out = sent g.O.Sink.taken g.O.Sink.stalled_writes c.args.out.now c.end_explained.new.out in
    let err = sent g.E.Sink.taken g.E.Sink.stalled_writes c.args.err.now c.end_explained.new.err in
    record {
      ends = run_ends policy_notices (IsExamined held c.args.path.now) (IsNoPolicy held c.args.path.now)
          c.check_output-ended.result c.end_explained.result out err
          c.check_output-ended.ensures.printed c.check_output-ended.ensures.fault c.end_explained.ensures;
    }
