use Rattle.std.proofs.Common.{map}
use Rattle.run_base.specs.Endings.{writer_states as sent}
use Rattle.audit_commands.specs.Auditing.{Given, given_by, IsNotAudited}
use Rattle.review_commands.specs.CautionLines.{report_notices}
use Rattle.review_commands.specs.Reviewing.{IsReviewed}
use Rattle.review_commands.proofs.EndingSteps.{run_noted}
use Rattle.review_commands.proofs.report.report_into.Goals as goal

pub returns : goal.returns
returns g c =
    let given : Given = given_by (g.F.Files.held c.args.files.now) c.args.path.now (g.U.Feed.ahead c.args.users.now)
    (g.H.Feed.ahead c.args.hosts.now)
    (map (λ s. s.name) c.args.work.sources.items) (map (λ s. g.R.Feed.ahead s.reader) c.args.work.sources.items) c.args.work.workers in
    let out = sent g.O.Sink.taken g.O.Sink.stalled_writes c.args.out.now c.end_noted.new.out in
    let err = sent g.E.Sink.taken g.E.Sink.stalled_writes c.args.err.now c.end_noted.new.err in
    record {
      ends = run_noted report_notices (IsReviewed given c.args.form) (IsNotAudited given) c.report_output-ended.result c.end_noted.result
          out err
          c.report_output-ended.ensures.report c.report_output-ended.ensures.fault c.end_noted.ensures;
    }
