use Rattle.std.proofs.Common.{option_copied}
use Rattle.review_commands.specs.Pairing.{PairInputs, pair_by}
use Rattle.review_program.proofs.CompareSteps.{compared-of, not-compared, not-compared-of}
use Rattle.review_program.proofs.compare.compare_output.Goals as goal

pub returns-in-Ok : goal.returns-in-Ok
returns-in-Ok g c =
    let given : PairInputs = pair_by (g.F.Files.held c.args.old_files.now) c.args.old_path.now
    (g.G.Files.held c.args.new_files.now) c.args.new_path.now (g.U.Feed.ahead c.args.users.now) (g.H.Feed.ahead c.args.hosts.now) in
    let user = option_copied c.args.names.user in
    let host = option_copied c.args.names.host in
    let p = c.in-Ok.pair in
    record {
      printed = compared-of given user host p.old.policy p.new.policy p.directory p.notice.items c.in-Ok.ensures.paired
          c.named_table-table.result c.noted_pair.result c.named_table-table.ensures.made c.noted_pair.ensures.noted;
      fault = not-compared-of given user host p.old.policy p.new.policy p.directory p.notice.items c.in-Ok.ensures.paired
          c.named_table-table.result c.noted_pair.result c.named_table-table.ensures.fault c.noted_pair.ensures.fault;
    }

pub returns-in-Err : goal.returns-in-Err
returns-in-Err g c =
    let given : PairInputs = pair_by (g.F.Files.held c.args.old_files.now) c.args.old_path.now
    (g.G.Files.held c.args.new_files.now) c.args.new_path.now (g.U.Feed.ahead c.args.users.now) (g.H.Feed.ahead c.args.hosts.now) in
    let user = option_copied c.args.names.user in
    let host = option_copied c.args.names.host in
    record {
      printed = tt;
      fault = not-compared given user host c.in-Err.fault c.in-Err.ensures.fault;
    }
