use Rattle.std.proofs.Common.{map}
use Rattle.review_program.specs.Changes.{ChangeInputs, change_inputs}
use Rattle.review_commands.specs.Pairing.{PairInputs, pair_by}
use Rattle.review_program.proofs.ChangeSteps.{changes-of, no-changes-of, unpaired-of}
use Rattle.review_program.proofs.changes.changes_output.Goals as goal

pub returns-in-Ok : goal.returns-in-Ok
returns-in-Ok g c =
    let pair : PairInputs = pair_by (g.F.Files.held c.args.old_files.now) c.args.old_path.now
    (g.G.Files.held c.args.new_files.now) c.args.new_path.now (g.U.Feed.ahead c.args.users.now) (g.H.Feed.ahead c.args.hosts.now) in
    let given : ChangeInputs = change_inputs pair (map (λ s. s.name) c.args.sources.items)
    (map (λ s. g.R.Feed.ahead s.reader) c.args.sources.items) in
    let p = c.in-Ok.pair in
    record {
      printed = changes-of given p.old.policy p.new.policy p.directory p.notice.items c.in-Ok.ensures.paired
          c.judged-table.result c.noted_pair.result c.judged-table.ensures.made c.noted_pair.ensures.noted;
      fault = no-changes-of given p.old.policy p.new.policy p.directory p.notice.items c.in-Ok.ensures.paired
          c.judged-table.result c.noted_pair.result c.judged-table.ensures.fault c.noted_pair.ensures.fault;
    }

pub returns-in-Err-clause-fault : goal.returns-in-Err-clause-fault
returns-in-Err-clause-fault g c =
    let pair : PairInputs = pair_by (g.F.Files.held c.args.old_files.now) c.args.old_path.now
    (g.G.Files.held c.args.new_files.now) c.args.new_path.now (g.U.Feed.ahead c.args.users.now) (g.H.Feed.ahead c.args.hosts.now) in
    let given : ChangeInputs = change_inputs pair (map (λ s. s.name) c.args.sources.items)
    (map (λ s. g.R.Feed.ahead s.reader) c.args.sources.items) in
    unpaired-of given c.in-Err.fault c.unpaired.result c.unpaired.ensures c.in-Err.ensures.fault
