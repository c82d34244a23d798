use Rattle.review_commands.specs.Pairing.{PairInputs, pair_by}
use Rattle.review_commands.proofs.PairSteps.{not-known, not-new}
use Rattle.review_commands.proofs.ReportSteps.{checked_of}
use Rattle.review_commands.proofs.pair.read_pair.Goals as goal

pub returns-in-Err-passing-clause-fault : goal.returns-in-Err-passing-clause-fault
returns-in-Err-passing-clause-fault g c =
    let given : PairInputs = pair_by (g.F.Files.held c.args.old_files.now) c.args.old_path.now
    (g.G.Files.held c.args.new_files.now) c.args.new_path.now (g.U.Feed.ahead c.args.users.now) (g.H.Feed.ahead c.args.hosts.now) in
    not-new given c.in-Err-passing.fault
    (c.in-Ok.checked.policy, checked_of _ _ _ _ _ c.in-Ok.ensures.loaded c.in-Ok.ensures.passes) c.in-Err-passing.ensures.fault

pub returns-in-Ok-known-clause-paired : goal.returns-in-Ok-known-clause-paired
returns-in-Ok-known-clause-paired g c =
    let old = c.in-Ok.checked in
    let new = c.in-Ok-passing.checked in
    let lines = c.in-Ok-pair_notice.ensures in
    record {
      old_found = lines.old_found;
      new_found = lines.new_found;
      old_are = record { main = old.text; handed = old.supplies; loaded = c.in-Ok.ensures.loaded; found_are = lines.old_are };
      new_are = record { main = new.text; handed = new.supplies; loaded = c.in-Ok-passing.ensures.loaded; found_are = lines.new_are };
      old_passes = c.in-Ok.ensures.passes;
      new_passes = c.in-Ok-passing.ensures.passes;
      is_directory = c.in-Ok-known.ensures.directory;
      notice_is = lines.lines_are;
    }

pub returns-in-Err-known-clause-fault : goal.returns-in-Err-known-clause-fault
returns-in-Err-known-clause-fault g c =
    let given : PairInputs = pair_by (g.F.Files.held c.args.old_files.now) c.args.old_path.now
    (g.G.Files.held c.args.new_files.now) c.args.new_path.now (g.U.Feed.ahead c.args.users.now) (g.H.Feed.ahead c.args.hosts.now) in
    not-known given c.in-Err-known.fault (
      (c.in-Ok.checked.policy, checked_of _ _ _ _ _ c.in-Ok.ensures.loaded c.in-Ok.ensures.passes),
      (c.in-Ok-passing.checked.policy, checked_of _ _ _ _ _ c.in-Ok-passing.ensures.loaded c.in-Ok-passing.ensures.passes),
    ) c.in-Err-known.ensures.fault
