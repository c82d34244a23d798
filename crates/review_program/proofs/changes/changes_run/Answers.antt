use Rattle.std.proofs.Common.{map}
use Rattle.run_base.specs.Endings.{writer_states as sent}
use Rattle.review_commands.specs.CautionLines.{report_notices}
use Rattle.review_program.specs.Changes.{AreChanges, AreNoChanges, ChangeInputs, change_inputs}
use Rattle.review_commands.specs.Pairing.{PairInputs, pair_by}
use Rattle.review_commands.proofs.EndingSteps.{run_noted}
use Rattle.review_program.proofs.changes.changes_run.Goals as goal

pub returns : goal.returns
returns g c =
    let pair : PairInputs = pair_by (g.F.Files.held c.args.old_files.now) c.args.old_path.now
    (g.G.Files.held c.args.new_files.now) c.args.new_path.now (g.U.Feed.ahead c.args.users.now) (g.H.Feed.ahead c.args.hosts.now) in
    let given : ChangeInputs = change_inputs pair (map (λ s. s.name) c.args.sources.items)
    (map (λ s. g.R.Feed.ahead s.reader) c.args.sources.items) in
    let out = sent g.O.Sink.taken g.O.Sink.stalled_writes c.args.out.now c.end_noted.new.out in
    let err = sent g.E.Sink.taken g.E.Sink.stalled_writes c.args.err.now c.end_noted.new.err in
    record {
      ends = run_noted report_notices (AreChanges given) (AreNoChanges given) c.changes_output-ended.result c.end_noted.result out err
          c.changes_output-ended.ensures.printed c.changes_output-ended.ensures.fault c.end_noted.ensures;
    }
