use Rattle.std.proofs.Common.{option_copied}
use Rattle.run_base.specs.Endings.{writer_states as sent}
use Rattle.review_program.specs.Comparing.{IsComparison, IsNoComparison}
use Rattle.review_commands.specs.Pairing.{PairInputs, pair_by}
use Rattle.review_commands.specs.Surveying.{table_notices}
use Rattle.review_commands.proofs.EndingSteps.{run_noted}
use Rattle.review_program.proofs.compare.compare_run.Goals as goal

pub returns : goal.returns
returns g c =
    let given : PairInputs = pair_by (g.F.Files.held c.args.old_files.now) c.args.old_path.now
    (g.G.Files.held c.args.new_files.now) c.args.new_path.now (g.U.Feed.ahead c.args.users.now) (g.H.Feed.ahead c.args.hosts.now) in
    let user = option_copied c.args.names.user in
    let host = option_copied c.args.names.host in
    let out = sent g.O.Sink.taken g.O.Sink.stalled_writes c.args.out.now c.end_noted.new.out in
    let err = sent g.E.Sink.taken g.E.Sink.stalled_writes c.args.err.now c.end_noted.new.err in
    record {
      ends = run_noted table_notices (IsComparison given user host) (IsNoComparison given user host) c.compare_output-ended.result
          c.end_noted.result out err c.compare_output-ended.ensures.printed c.compare_output-ended.ensures.fault c.end_noted.ensures;
    }
